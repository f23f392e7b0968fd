use Rattle.std.proofs.Common.{rules, ◌≡◌, ◌+◌, ◌∙◌, [], ◌∷◌, ◌++◌, refl, sym, ap, arith}
use Rattle.dm_repo.specs.Squares.{placed}
use Rattle.dm_repo.proofs.Splits.{left_is, none_left, placed_more}
use Rattle.dm_repo.proofs.parted.with_places.Goals as goal

pub loop-k-init : goal.loop-k-init
loop-k-init g c = record {
  can_next = search rules;
  is_finite = tt;
  left = rw (c.into_iter-k-iterator.ensures.into_iter_gives, c.enumerate-k-items.ensures.source, c.enumerate-k-items.ensures.count, c.into_iter.ensures.rest) refl;
  placed_so_far = rw (c.into_iter-k-iterator.ensures.into_iter_gives, c.enumerate-k-items.ensures.count, c.new-list.ensures.items) refl;
}

pub loop-k-preserved : goal.loop-k-preserved
loop-k-preserved g c =
    let xs = c.args.patches.items in
    let left = c.next.new.self.iter.rest.items in
    let s = c.in-Some.ensures.steps in
    let w = rw (s.0.0, ← s.1) at c.loop-k.invariant.left in
    let so_far = rw (← s.1) at c.loop-k.invariant.placed_so_far in
    record {
      can_next = search rules;
      is_finite = tt;
      left = rw (s.2, ← s.1) (left_is xs c.in-Some.k c.in-Some.patch left w).1;
      placed_so_far = rw (s.2, ← s.1) (c.in_ok-push.ensures.items ∙ ap (λ z. z ++ (c.in-Some.k, c.in-Some.patch) ∷ []) so_far ∙ sym (placed_more xs c.in-Some.k c.in-Some.patch left w));
    }

pub returns : goal.returns
returns g c =
    let left = c.loop-k.k-iterator.iter.rest in
    c.loop-k.invariant.placed_so_far ∙ ap placed (none_left c.args.patches.items c.loop-k.k-iterator.count left.items c.loop-k.invariant.left (sym left.ok.0 ∙ c.in-None.ensures.steps.0.0))
