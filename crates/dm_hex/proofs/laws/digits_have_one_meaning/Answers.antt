use Rattle.dm_hex.proofs.DigitLemmas.{one_meaning}
use Rattle.dm_hex.proofs.laws.digits_have_one_meaning.Goals as goal

pub returns : goal.returns
returns c = one_meaning
