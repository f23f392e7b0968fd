use Rattle.dm_named.proofs.ConflictLemmas.{keep_their_shape}
use Rattle.dm_named.proofs.laws.conflictors_keep_their_shape.Goals as goal

pub returns : goal.returns
returns c = keep_their_shape
