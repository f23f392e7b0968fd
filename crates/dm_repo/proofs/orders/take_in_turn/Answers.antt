use Rattle.std.proofs.Common.{inl, inr}
use Rattle.dm_repo.proofs.orders.take_in_turn.Goals as goal

pub returns-then-not-branch : goal.returns-then-not-branch
returns-then-not-branch g c = inl (rw c.in_ok-after.ensures at (rw c.if-not-branch.true at c.in_ok-take.ensures))

pub returns-then-not-branch-2 : goal.returns-then-not-branch-2
returns-then-not-branch-2 g c = inr (_, rw c.in_ok-after.ensures at (rw c.if-not-branch.false at c.in_ok-take.ensures), rw c.if-not-branch-2.true at c.in_ok-take-2.ensures)
