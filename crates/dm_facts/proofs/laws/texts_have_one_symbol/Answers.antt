use Rattle.dm_facts.proofs.HeapLemmas.{one_symbol}
use Rattle.dm_facts.proofs.laws.texts_have_one_symbol.Goals as goal

pub returns : goal.returns
returns c = one_symbol
