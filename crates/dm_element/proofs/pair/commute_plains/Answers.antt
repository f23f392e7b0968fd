use Rattle.dm_prim.specs.Prims.{prim_of}
use Rattle.dm_element.proofs.ElementLemmas.{plain_to}
use Rattle.dm_element.proofs.ConflictLemmas.{no_plains}
use Rattle.dm_element.proofs.pair.commute_plains.Goals as goal

pub returns-in_default : goal.returns-in_default
returns-in_default g c = no_plains (prim_of c.args.p) (prim_of c.args.q) (rw c.in_default.is at c.in_ok-q.ensures)

pub returns : goal.returns
returns g c = plain_to (prim_of c.args.p) (prim_of c.args.q) (prim_of c.in-Some.q) (prim_of c.in-Some.p) (rw c.in-Some.is at c.in_ok-q.ensures)
