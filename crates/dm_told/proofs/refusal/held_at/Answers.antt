use Rattle.dm_told.proofs.PatchLemmas.{lent_is}
use Rattle.dm_told.proofs.refusal.held_at.Goals as goal

pub returns : goal.returns
returns c = lent_is _ c.held_name.result c.held_name.ensures
