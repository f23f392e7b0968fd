use Rattle.dm_prim.proofs.TouchLemmas.{inverses_touch_the_same}
use Rattle.dm_prim.proofs.laws.inverses_touch_the_same.Goals as goal

pub returns : goal.returns
returns c = inverses_touch_the_same
