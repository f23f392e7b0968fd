use Rattle.std.proofs.Common.{◌+◌, ◌-◌, ◌≤◌, ◌<◌, ◌^◌, ◌++◌, ◌∙◌, ap, sym, subst, arith, length, drop, take, map, List, ℕ}
use Rattle.std.specs.List.{All}
use Rattle.dm_tree.proofs.Places.{written_back}
use Rattle.dm_tree.proofs.Borrowed.{held_from, length-held_from, copied_fit, copied_ends}
use Rattle.dm_tree.proofs.text_ref.TextRef.copy_ends.Goals as goal

pub unreachable-requires : goal.unreachable-requires
unreachable-requires g c =
    let h = held_from _ _ _ _ c.self.invariant c.self.view_is in
    omega (arith, c.in_default.ensures.full, c.requires.room, length-held_from _ _ _ _ h)

pub shift-requires-clause-fits : goal.shift-requires-clause-fits
shift-requires-clause-fits g c =
    let h = held_from _ _ _ _ c.self.invariant c.self.view_is in
    subst (λ (z : List ℕ). All (λ e. (c.self.inside.begin ≤ e) × (e - c.self.inside.begin + c.args.begin < 2 ^ 64)) (drop c.len-start.result z)) (sym (c.deref_mut.ensures.value ∙ c.in-Ok.ensures.items))
    (copied_fit _ _ _ _ _ _ h _ (c.len-start.ensures ∙ c.args.ends.now.ok.0) c.requires.fits)

pub returns : goal.returns
returns g c =
    let h = held_from _ _ _ _ c.self.invariant c.self.view_is in
    written_back c.shift.new.ends c.extend_from_slice.new.self.items c.extend_from_slice.new.self.len (c.shift.auto.ends ∙ ap length c.deref_mut.ensures.value) c.extend_from_slice.new.self.ok.0
    ∙ c.shift.ensures
    ∙ ap (λ z. take c.len-start.result z ++ map (λ e. e - c.self.inside.begin + c.args.begin) (drop c.len-start.result z)) (c.deref_mut.ensures.value ∙ c.in-Ok.ensures.items)
    ∙ copied_ends _ _ _ _ _ _ h _ (c.len-start.ensures ∙ c.args.ends.now.ok.0)
