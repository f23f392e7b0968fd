use Rattle.dm_told.proofs.PatchLemmas.{lent_is}
use Rattle.dm_told.proofs.refusal.new_at.Goals as goal

pub returns : goal.returns
returns c = lent_is _ c.new_name.result c.new_name.ensures
