use Rattle.std.proofs.Common.{refl}
use Rattle.dm_prim.proofs.touched.touch_nothing_in_common.Goals as goal

pub returns : goal.returns
returns g c =
    rw (← c.first.view_is, ← c.second.view_is) (
      λ r. (c.if-not-first.false, c.if-not-second.false, rw (c.deref.ensures.value, c.deref-2.ensures.value) at (c.all_apart.ensures.0 r)),
      λ h. c.all_apart.ensures.1 (rw (c.deref.ensures.value, c.deref-2.ensures.value) h.2),
    )

pub returns-then-is_apart_from : goal.returns-then-is_apart_from
returns-then-is_apart_from g c =
    rw (← c.first.view_is, ← c.second.view_is) (
      λ _. (c.if-not-first.false, c.if-not-second.false, c.is_apart_from.ensures c.if-is_apart_from.true c.first.inside.paths.items c.second.inside.paths.items c.first.invariant c.second.invariant),
      λ _. refl,
    )
