use Rattle.std.proofs.Common.{◌-◌, ◌≤◌, ◌∙◌, take, drop, length, arith}
use Rattle.dm_tree.specs.Texts.{LaidOutFrom}
use Rattle.dm_tree.proofs.Borrowed.{held_from, length-held_from, begin-within, holds_within, valid_from, view_from, clamped}
use Rattle.dm_tree.proofs.text_ref.TextRef.within.Goals as goal

bounds : (c : goal.After-result-1) → (c.self.inside.begin ≤ c.begin_at-from.result) × (c.begin_at-from.result ≤ c.begin_at-to.result) × (c.begin_at-to.result - c.self.inside.begin ≤ length c.self.inside.bytes.now)
bounds c =
    let h = held_from _ _ _ _ c.self.invariant c.self.view_is in
    begin-within _ _ _ _ h c.min-first.result c.min-last.result _ _ (omega (arith, c.min-first.ensures, c.min-last.ensures, c.requires))
    (omega (arith, c.min-last.ensures, length-held_from _ _ _ _ h)) (c.begin_at-from.ensures c.args.self.now h.placed) (c.begin_at-to.ensures c.args.self.now h.placed)

cut_out : (c : goal.After-result-4-1)
    → LaidOutFrom c.begin_at-from.result (take (c.begin_at-to.result - c.self.inside.begin - (c.begin_at-from.result - c.self.inside.begin)) (drop (c.begin_at-from.result - c.self.inside.begin) c.self.inside.bytes.now)) (take (c.min-last.result - c.min-first.result) (drop c.min-first.result c.self.inside.ends.now)) (take (c.min-last.result - c.min-first.result) (drop c.min-first.result c.args.self.now))
cut_out c =
    let h = held_from _ _ _ _ c.self.invariant c.self.view_is in
    holds_within _ _ _ _ h c.min-first.result c.min-last.result _ _ (omega (arith, c.min-first.ensures, c.min-last.ensures, c.requires))
    (omega (arith, c.min-last.ensures, length-held_from _ _ _ _ h)) (c.begin_at-from.ensures c.args.self.now h.placed) (c.begin_at-to.ensures c.args.self.now h.placed)

pub slice_bounds-result-count : goal.slice_bounds-result-count
slice_bounds-result-count c = let b = bounds c in omega (arith, b.0, b.1)

pub slice_bounds-result-start : goal.slice_bounds-result-start
slice_bounds-result-start c = let b = bounds c in omega (arith, b.0, b.1, b.2)

pub slice_bounds-result-end : goal.slice_bounds-result-end
slice_bounds-result-end c = let b = bounds c in omega (arith, b.0, b.1, b.2)

pub invariant_of-result : goal.invariant_of-result
invariant_of-result c = valid_from _ _ _ _ (cut_out c)

pub returns : goal.returns
returns c =
    let h = held_from _ _ _ _ c.self.invariant c.self.view_is in
    view_from _ _ _ _ (cut_out c)
    ∙ clamped c.args.self.now c.args.start c.args.end c.min-first.result c.min-last.result c.requires (omega (arith, c.min-first.ensures, length-held_from _ _ _ _ h)) (omega (arith, c.min-last.ensures, length-held_from _ _ _ _ h))
