use Rattle.std.proofs.Common.{arith, ◌∙◌}
use Rattle.dm_prim.specs.Prims.{prim_of, prims_of}
use Rattle.dm_prim.proofs.ListLemmas.{count_of, passed_none, passed_more, passed_not, passed_all}
use Rattle.dm_prim.proofs.list.pass.Goals as goal

pub loop-i-init : goal.loop-i-init
loop-i-init g c = (passed_none (prim_of c.args.first) (prims_of c.args.row.now.items), c.len-i-end.ensures ∙ c.args.row.now.ok.0)

pub returns-in_default-2 : goal.returns-in_default-2
returns-in_default-2 g c = passed_not (prim_of c.args.first) (prims_of c.args.row.now.items) c.loop-i.i c.loop-i.row.items c.pop_front.new.self.items c.in-Some.second (prim_of c.loop-i.first)
    (omega (arith, count_of c.args.row.now.items, c.loop-i-test.true, c.loop-i.invariant.1)) c.loop-i.invariant.0 c.in-Some.ensures.items (rw c.in_default-2.is at c.in_ok-passed.ensures)

pub loop-i-preserved : goal.loop-i-preserved
loop-i-preserved g c = (
  passed_more (prim_of c.args.first) (prims_of c.args.row.now.items) c.loop-i.i c.loop-i.row.items c.pop_front.new.self.items c.in-Some.second (prim_of c.loop-i.first)
      (omega (arith, count_of c.args.row.now.items, c.loop-i-test.true, c.loop-i.invariant.1)) c.loop-i.invariant.0 c.in-Some.ensures.items
      c.push_back.new.self.items c.in-Some-2.passed (prim_of c.in-Some-2.moved) (rw c.in-Some-2.is at c.in_ok-passed.ensures) c.in-Ok.ensures.items,
  c.loop-i.invariant.1,
)

pub returns : goal.returns
returns g c = passed_all (prim_of c.args.first) (prims_of c.args.row.now.items) (prims_of c.loop-i.row.items) (prim_of c.loop-i.first) c.loop-i.i
    (omega (arith, count_of c.args.row.now.items, c.loop-i-test.false, c.loop-i.invariant.1)) c.loop-i.invariant.0
