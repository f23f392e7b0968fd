use Rattle.std.proofs.Common.{refl, arith}
use Rattle.dm_element.proofs.SettledLemmas.{contains_from, contains_not, named_at, not_named_more, not_named}
use Rattle.dm_element.proofs.settled.is_named.Goals as goal

pub loop-patch-init : goal.loop-patch-init
loop-patch-init g c = λ k l. absurd (omega (arith, l))

pub returns-then-contains : goal.returns-then-contains
returns-then-contains g c = (
  λ t. named_at c.args.place c.args.patches.now c.loop-patch.patch-index c.patch-item.result c.loop-patch-test.true c.patch-item.is (contains_from c.patch-item.result.names.now c.args.place c.if-contains.ensures.cases),
  λ h. refl,
)

pub loop-patch-preserved : goal.loop-patch-preserved
loop-patch-preserved g c = not_named_more c.args.place c.args.patches.now c.loop-patch.patch-index c.patch-item.result c.loop-patch-test.true c.patch-item.is c.loop-patch.invariant
    (contains_not c.patch-item.result.names.now c.args.place c.if-contains.ensures.cases)

pub returns : goal.returns
returns g c = (λ t. let w : ⊥ = cc in absurd w, λ h. absurd (not_named c.args.place c.args.patches.now c.loop-patch.patch-index c.loop-patch-test.false c.loop-patch.invariant h))
