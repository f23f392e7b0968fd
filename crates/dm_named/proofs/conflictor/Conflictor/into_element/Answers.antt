use Rattle.std.proofs.Common.{List, ap}
use Rattle.dm_prim.specs.Primitives.{Prim, inv_all}
use Rattle.dm_prim.specs.Prims.{prims_of}
use Rattle.dm_element.specs.Elements as elements
use Rattle.dm_element.specs.declared.side.Side.TheVariants.{After}
use Rattle.dm_named.proofs.ConflictLemmas.{shadows_pushed}
use Rattle.dm_named.proofs.conflictor.Conflictor.into_element.Goals as goal

pub returns : goal.returns
returns g c =
    let inside = c.self.inside in
    rw (← c.self.view_is, c.new-conflict.ensures, c.invert_all.ensures)
    (ap (λ (shadows : List (List Prim)). elements.Conflicted (record { side = After; effect = inv_all (prims_of inside.undone.items); shadows = shadows }))
    (shadows_pushed c.in_ok-shadows.shadows.items c.push.new.self.items c.in_ok-into_shadow.field-0 inside.partners.items inside.own c.in_ok-push.ensures.items c.in_ok-shadows.ensures c.in_ok-into_shadow.ensures))
