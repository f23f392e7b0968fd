use Rattle.dm_send.specs.Leaving.{nothing}
use Rattle.dm_send.proofs.Left.{take_next}
use Rattle.dm_send.proofs.leaving.part.Goals as goal

pub loop-at-init : goal.loop-at-init
loop-at-init g c = rw (c.in_ok-with_capacity.ensures.items, c.new.ensures.items, c.new-2.ensures.items) nothing

pub loop-at-preserved : goal.loop-at-preserved
loop-at-preserved g c =
    let next = c.in_ok-next.ensures in
    let at = take_next c.args.repo.now.patches c.loop-at.at c.patch.result.now c.patch.ensures in
    rw (at, ← next) (c.in_ok-parting.ensures _ c.loop-at.invariant)
