use Rattle.std.proofs.Common.{map}
use Rattle.dm_tree.proofs.Copies.{moved_more}
use Rattle.dm_tree.proofs.path.own_names.Goals as goal

pub loop-name-preserved : goal.loop-name-preserved
loop-name-preserved g c = record {
  can_next = tt;
  is_finite = tt;
  all = moved_more (λ v. v.items) (map (λ v. v.items) c.args.names.items) c.loop-name.name-iterator.rest.items c.next.new.self.rest.items c.loop-name.owned.items c.push.new.self.items c.in-Some.name c.from_vec.result
      c.in-Some.ensures.steps.0 c.from_vec.ensures c.in_ok-push.ensures.items c.loop-name.invariant.all;
}
