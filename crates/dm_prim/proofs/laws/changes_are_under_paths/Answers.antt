use Rattle.dm_prim.proofs.PartLemmas.{keeps_but}
use Rattle.dm_prim.proofs.laws.changes_are_under_paths.Goals as goal

pub returns : goal.returns
returns c = keeps_but
