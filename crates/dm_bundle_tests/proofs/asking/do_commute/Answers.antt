use Rattle.dm_prim.specs.Prims.{prims_of}
use Rattle.dm_bundle_tests.proofs.asking.do_commute.Goals as goal

pub returns-in-Ok-Some : goal.returns-in-Ok-Some
returns-in-Ok-Some c =
    let pair = c.in-Ok-Some.field-0-0 in
    λ yes. (prims_of pair.0.items, prims_of pair.1.items, rw c.in-Ok-Some.field-0-is at c.in-Ok-Some.ensures.answer)
