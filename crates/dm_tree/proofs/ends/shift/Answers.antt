use Rattle.std.proofs.Common.{◌+◌, ◌-◌, ◌<◌, ◌^◌, arith, get_or}
use Rattle.dm_tree.proofs.Places.{shift_at, shifted_all}
use Rattle.dm_tree.proofs.ends.shift.Goals as goal

pub overflow_sub-ends : goal.overflow_sub-ends
overflow_sub-ends c = (shift_at _ _ _ _ _ _ c.requires.fits c.loop-i.auto.i (omega (arith, c.loop-i.invariant.size)) c.loop-i.invariant).0

pub overflow_add-ends : goal.overflow_add-ends
overflow_add-ends c =
    let fits : get_or c.loop-i.ends c.loop-i.i 0 - c.args.from + c.args.to < 2 ^ 64 = (shift_at _ _ _ _ _ _ c.requires.fits c.loop-i.auto.i (omega (arith, c.loop-i.invariant.size)) c.loop-i.invariant).1 in
    omega (arith, fits)

pub returns : goal.returns
returns c = shifted_all _ _ _ _ _ c.loop-i.i c.requires.within (omega arith) c.loop-i.invariant
