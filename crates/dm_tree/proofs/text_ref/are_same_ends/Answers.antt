use Rattle.std.proofs.Common.{◌≡◌, ◌-◌, get_or, refl, arith}
use borrow.Author.Count.{below_more}
use Rattle.dm_tree.proofs.text_ref.are_same_ends.Goals as goal

pub returns-then-ends-i : goal.returns-then-ends-i
returns-then-ends-i c = (λ f. cc, λ h. absurd (c.if-ends-i.true (h c.loop-i.i c.loop-i-test.true)))

pub loop-i-preserved : goal.loop-i-preserved
loop-i-preserved c = below_more (λ k. get_or c.args.ends.now k 0 - c.args.from ≡ get_or c.args.others.now k 0 - c.args.to) c.loop-i.i c.loop-i.invariant c.if-ends-i.false

pub returns : goal.returns
returns c = (λ t k lt. c.loop-i.invariant k (omega (arith, lt, c.loop-i-test.false)), λ h. refl)
