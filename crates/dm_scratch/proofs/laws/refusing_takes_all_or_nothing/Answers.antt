use Rattle.dm_scratch.proofs.KeepLemmas.{refused_keeps}
use Rattle.dm_scratch.proofs.laws.refusing_takes_all_or_nothing.Goals as goal

pub returns : goal.returns
returns c = refused_keeps
