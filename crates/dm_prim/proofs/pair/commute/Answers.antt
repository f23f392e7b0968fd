use Rattle.std.proofs.Common.{Result, Ok, Err, Option, IfOk}
use Rattle.dm_prim.specs.Primitives.{Prim}
use Rattle.dm_prim.specs.Prims.{prim_of, CommutesTo, PairLawsHold}
use Rattle.dm_prim.specs.declared.primitive.Primitive as code
use Rattle.dm_prim.proofs.TableLemmas.{laws_hold}
use Rattle.dm_prim.proofs.pair.commute.Goals as goal

by_result : {E Z : Type 0} (p q : Prim) (r : Result (Option (code.Primitive Z × code.Primitive Z)) E) → IfOk r (CommutesTo p q) → IfOk r (PairLawsHold p q)
by_result p q (Ok r) h = laws_hold p q r h
by_result p q (Err e) h = h

pub returns-clause-laws : goal.returns-clause-laws
returns-clause-laws g c = by_result (prim_of c.args.p.now) (prim_of c.args.q.now) c.commute_owned.result
    (rw (c.in_ok-first.ensures.value, c.in_ok-second.ensures.value) at c.commute_owned.ensures)
