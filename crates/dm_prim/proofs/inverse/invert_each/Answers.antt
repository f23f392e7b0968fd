use Rattle.std.proofs.Common.{◌≡◌, ◌<◌, arith, ap, ◌∙◌, true, false, length}
use Rattle.dm_prim.specs.Prims.{prims_of}
use Rattle.dm_prim.proofs.ListLemmas.{count_of, inverted_none, inverted_count, inverted_more, inverted_all}
use Rattle.dm_prim.proofs.inverse.invert_each.Goals as goal

pub loop-i-init : goal.loop-i-init
loop-i-init g c = (
  inverted_none (prims_of c.args.prims.items) (prims_of c.from-queue.result.items) (ap (λ z. prims_of z) c.from-queue.ensures.0),
  c.len-i-end.ensures ∙ c.from-queue.ensures.1 ∙ c.args.prims.ok.0,
)

pub unreachable-requires : goal.unreachable-requires
unreachable-requires g c =
    let queue = c.loop-i.queue.items in
    let some : 0 < length queue =
    omega (arith, count_of queue, inverted_count (prims_of c.args.prims.items) (prims_of queue) c.loop-i.i c.loop-i.invariant.0, count_of c.args.prims.items, c.loop-i-test.true, c.loop-i.invariant.1) in
    let never : false ≡ true = c.in_default.ensures.variant.1 (omega (arith, some, c.loop-i.queue.ok)) in
    cc

pub loop-i-preserved : goal.loop-i-preserved
loop-i-preserved g c = (
  inverted_more (prims_of c.args.prims.items) c.loop-i.i c.loop-i.queue.items c.pop_front.new.self.items c.push_back.new.self.items c.in-Some.prim c.invert.result
      (omega (arith, count_of c.args.prims.items, c.loop-i-test.true, c.loop-i.invariant.1)) c.loop-i.invariant.0 c.in-Some.ensures.items c.invert.ensures c.in-Ok.ensures.items,
  c.loop-i.invariant.1,
)

pub returns : goal.returns
returns g c = ap (λ z. prims_of z) c.from.ensures.0 ∙ inverted_all (prims_of c.args.prims.items) (prims_of c.loop-i.queue.items) c.loop-i.i
    (omega (arith, count_of c.args.prims.items, c.loop-i-test.false, c.loop-i.invariant.1)) c.loop-i.invariant.0
