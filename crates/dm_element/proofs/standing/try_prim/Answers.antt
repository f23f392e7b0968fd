use Rattle.std.proofs.Common.{refl}
use Rattle.dm_element.proofs.StandingLemmas.{plain_stands, plain_falls}
use Rattle.dm_element.proofs.standing.try_prim.Goals as goal

pub returns-then-branch : goal.returns-then-branch
returns-then-branch g c = λ s e.
    let t = rw c.if-branch.true at (c.in_ok-leads.ensures s e) in (t.0, t.1, plain_stands t.2)

pub returns : goal.returns
returns g c = λ s e. (refl, plain_falls (rw c.if-branch.false at (c.in_ok-leads.ensures s e)))
