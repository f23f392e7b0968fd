use Rattle.std.proofs.Common.{refl, append-nil}
use Rattle.dm_element.specs.Elements as elements
use Rattle.dm_element.specs.Settled.{elements_in}
use Rattle.dm_element.specs.Values.{element_of, elements_of, patches_of}
use Rattle.dm_element.proofs.SettledLemmas.{stops_at_once, later_more, later_not, later_all}
use Rattle.dm_element.proofs.settled.passes_all.Goals as goal

pub returns-in_default : goal.returns-in_default
returns-in_default g c = (
  λ t. let w : ⊥ = cc in absurd w,
  λ h. absurd (stops_at_once (elements_of c.args.rest.now) (elements_in (patches_of c.args.later.now)) (rw (c.in_default.is, c.in_ok-copy_into.ensures) at c.in_ok-first.ensures) h),
)

pub loop-patch-init : goal.loop-patch-init
loop-patch-init g c = rw (append-nil (elements_of c.args.rest.now)) (rw (c.in-Some.is, c.in_ok-copy_into.ensures) at c.in_ok-first.ensures)

pub returns-in_default-2 : goal.returns-in_default-2
returns-in_default-2 g c = (
  λ t. let w : ⊥ = cc in absurd w,
  λ h. absurd (later_not (elements.Conflicted c.args.conflict.now) (elements_of c.args.rest.now) c.args.later.now c.loop-patch.patch-index c.patch-item.result c.loop-patch-test.true c.patch-item.is
      (element_of c.loop-patch.moved) c.loop-patch.invariant (rw c.in_default-2.is at c.in_ok-next.ensures) h),
)

pub loop-patch-preserved : goal.loop-patch-preserved
loop-patch-preserved g c = later_more (elements.Conflicted c.args.conflict.now) (elements_of c.args.rest.now) c.args.later.now c.loop-patch.patch-index c.patch-item.result c.loop-patch-test.true c.patch-item.is
    (element_of c.loop-patch.moved) c.loop-patch.invariant (rw c.in-Some-2.is at c.in_ok-next.ensures)

pub returns : goal.returns
returns g c = (λ t. later_all (elements.Conflicted c.args.conflict.now) (elements_of c.args.rest.now) c.args.later.now c.loop-patch.patch-index (element_of c.loop-patch.moved) c.loop-patch-test.false c.loop-patch.invariant, λ h. refl)
