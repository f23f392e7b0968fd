use Rattle.std.proofs.Common.{◌≡◌, true, false, arith}
use Rattle.dm_begin.proofs.DealLemmas.{all_taken, none_taken, one_taken, some_left}
use Rattle.dm_begin.proofs.spreading.next_prims.Goals as goal

pub loop-i-init : goal.loop-i-init
loop-i-init g c = (none_taken c.args.queue.now.items c.in_ok-prims.prims.items c.in_ok-prims.ensures.items, omega arith)

pub unreachable-requires : goal.unreachable-requires
unreachable-requires g c =
    let some = some_left c.args.queue.now.items c.loop-i.prims.items c.loop-i.queue.items c.loop-i.i c.args.count c.loop-i.invariant.0 c.loop-i-test.true c.requires in
    let never : false ≡ true = c.in_default.ensures.variant.1 (omega (arith, some, c.loop-i.queue.ok)) in
    cc

pub loop-i-preserved : goal.loop-i-preserved
loop-i-preserved g c = (
  one_taken c.args.queue.now.items c.loop-i.prims.items c.loop-i.queue.items c.push.new.self.items c.pop_front.new.self.items c.loop-i.i c.in-Some.prim c.loop-i.invariant.0 c.in-Some.ensures.items c.in_ok-push.ensures.items,
  omega (arith, c.loop-i-test.true),
)

pub returns-clause-next : goal.returns-clause-next
returns-clause-next g c = (all_taken c.args.queue.now.items c.loop-i.prims.items c.loop-i.queue.items c.loop-i.i c.args.count c.loop-i.invariant.0 c.loop-i.invariant.1 c.loop-i-test.false).0

pub returns-clause-left : goal.returns-clause-left
returns-clause-left g c = (all_taken c.args.queue.now.items c.loop-i.prims.items c.loop-i.queue.items c.loop-i.i c.args.count c.loop-i.invariant.0 c.loop-i.invariant.1 c.loop-i-test.false).1
