use Rattle.std.proofs.Common.{refl}
use Rattle.dm_element.proofs.standing.try_after.Goals as goal

pub returns-then-not-branch : goal.returns-then-not-branch
returns-then-not-branch g c = λ s e. (refl, rw (c.if-not-branch.true, c.effect.ensures) at (c.in_ok-lead_all.ensures s e))

pub returns-in-None : goal.returns-in-None
returns-in-None g c = λ s e.
    let t = rw (c.if-not-branch.false, c.effect.ensures) at (c.in_ok-lead_all.ensures s e) in
    (t.0, t.1, t.2, rw (c.in-None.is, c.shadows.ensures) at (c.in_ok-find_fallen_shadow.ensures t.0 t.1))

pub returns-in-Some : goal.returns-in-Some
returns-in-Some g c = λ s e.
    let t = rw (c.if-not-branch.false, c.effect.ensures) at (c.in_ok-lead_all.ensures s e) in
    (refl, (t.0, t.2, rw (c.in-Some.is, c.shadows.ensures) at (c.in_ok-find_fallen_shadow.ensures t.0 t.1)))
