use Rattle.std.proofs.Common.{◌+◌, arith}
use Rattle.dm_prim.specs.Prims.{prim_of}
use Rattle.dm_bundle.proofs.ReplaceLemmas.{among_step, among_front}
use Rattle.dm_bundle.proofs.replaces.room_among.Goals as goal

pub returns-then-left-count : goal.returns-then-left-count
returns-then-left-count g c =
    let next = among_step prim_of c.args.prims.now c.loop-prim.prim-index c.prim-item.result c.loop-prim-test.true c.prim-item.is in
    omega (arith, next, among_front prim_of c.args.prims.now (c.loop-prim.prim-index + 1), c.loop-prim.invariant, c.count_in-count.ensures, c.if-left-count.true)

pub loop-prim-preserved : goal.loop-prim-preserved
loop-prim-preserved g c =
    let next = among_step prim_of c.args.prims.now c.loop-prim.prim-index c.prim-item.result c.loop-prim-test.true c.prim-item.is in
    omega (arith, next, c.loop-prim.invariant, c.count_in-count.ensures, c.if-left-count.false)
