use Rattle.std.proofs.Common.{ℕ, ◌+◌, ◌-◌, ◌<◌, ◌≤◌, ◌^◌, ◌∙◌, List, length, drop, ap, subst, arith, sym}
use Rattle.std.specs.List.{All, splice}
use Rattle.dm_tree.specs.Texts.{LaidOut}
use Rattle.dm_tree.proofs.Texts.{held, length-held, valid_of, view_of, begin_of-mono, begin_of-fits}
use Rattle.dm_tree.proofs.Splices.{added_fits, fresh_fits, behind_fits, holds_splice}
use Rattle.dm_tree.proofs.text.Text.splice.Goals as goal

pub replace_bytes-requires-clause-order : goal.replace_bytes-requires-clause-order
replace_bytes-requires-clause-order g c = omega (arith, c.begin-from.ensures, c.begin-to.ensures, begin_of-mono c.args.self.now c.args.start c.args.end c.requires.order)

pub replace_bytes-requires-clause-within : goal.replace_bytes-requires-clause-within
replace_bytes-requires-clause-within g c = omega (arith, c.begin-to.ensures, begin_of-fits _ _ _ (held _ _ _ c.self.invariant c.self.view_is) c.args.end)

pub replace_ends-requires-clause-within : goal.replace_ends-requires-clause-within
replace_ends-requires-clause-within g c =
    omega (arith, ap length c.reserve.ensures.items, length-held _ _ _ (held _ _ _ c.self.invariant c.self.view_is), c.requires.within)

pub replace_ends-requires-clause-added_fits : goal.replace_ends-requires-clause-added_fits
replace_ends-requires-clause-added_fits g c =
    let h = held _ _ _ c.self.invariant c.self.view_is in
    let f = held _ _ _ c.fresh.invariant c.fresh.view_is in
    let fits : length c.replace_bytes.new.bytes.items < 2 ^ 64 = omega (arith, c.replace_bytes.new.bytes.ok, c.replace_bytes.new.bytes.small) in
    let size = c.len-3.ensures ∙ c.fresh.inside.bytes.ok.0 in
    let run = rw (c.reserve-2.ensures.items, c.deref.ensures.value) at c.replace_bytes.ensures in
    added_fits _ _ _ _ _ _ h f c.args.start c.args.end _ _ _ c.begin-from.ensures c.begin-to.ensures size c.replace_bytes.new.bytes.items run fits

pub replace_ends-requires-clause-fresh_fit : goal.replace_ends-requires-clause-fresh_fit
replace_ends-requires-clause-fresh_fit g c =
    let h = held _ _ _ c.self.invariant c.self.view_is in
    let f = held _ _ _ c.fresh.invariant c.fresh.view_is in
    let fits : length c.replace_bytes.new.bytes.items < 2 ^ 64 = omega (arith, c.replace_bytes.new.bytes.ok, c.replace_bytes.new.bytes.small) in
    let size = c.len-3.ensures ∙ c.fresh.inside.bytes.ok.0 in
    let run = rw (c.reserve-2.ensures.items, c.deref.ensures.value) at c.replace_bytes.ensures in
    subst (λ (z : List ℕ). All (λ x. c.begin-from.result + x < 2 ^ 64) z) (sym c.deref-2.ensures.value)
    (fresh_fits _ _ _ _ _ _ h f c.args.start c.args.end _ _ _ c.begin-from.ensures c.begin-to.ensures size c.replace_bytes.new.bytes.items run fits)

pub replace_ends-requires-clause-behind : goal.replace_ends-requires-clause-behind
replace_ends-requires-clause-behind g c =
    let h = held _ _ _ c.self.invariant c.self.view_is in
    let f = held _ _ _ c.fresh.invariant c.fresh.view_is in
    let fits : length c.replace_bytes.new.bytes.items < 2 ^ 64 = omega (arith, c.replace_bytes.new.bytes.ok, c.replace_bytes.new.bytes.small) in
    let size = c.len-3.ensures ∙ c.fresh.inside.bytes.ok.0 in
    let run = rw (c.reserve-2.ensures.items, c.deref.ensures.value) at c.replace_bytes.ensures in
    subst (λ (z : List ℕ). All (λ x. (c.begin-to.result ≤ x) × (x - c.begin-to.result + (c.begin-from.result + c.len-3.result) < 2 ^ 64)) (drop c.args.end z)) (sym c.reserve.ensures.items)
    (behind_fits _ _ _ _ _ _ h f c.args.start c.args.end _ _ _ c.begin-from.ensures c.begin-to.ensures size c.replace_bytes.new.bytes.items run fits)

spliced : (g : _) (c : goal.After-replace_ends g) → LaidOut c.replace_bytes.new.bytes.items c.replace_ends.new.ends.items (splice c.args.self.now c.args.start c.args.end c.args.fresh.now)
spliced g c =
    let h = held _ _ _ c.self.invariant c.self.view_is in
    let f = held _ _ _ c.fresh.invariant c.fresh.view_is in
    let size = c.len-3.ensures ∙ c.fresh.inside.bytes.ok.0 in
    let run = rw (c.reserve-2.ensures.items, c.deref.ensures.value) at c.replace_bytes.ensures in
    let ends = rw (c.reserve.ensures.items, c.deref-2.ensures.value) at c.replace_ends.ensures in
    holds_splice _ _ _ _ _ _ h f c.args.start c.args.end _ _ _ c.begin-from.ensures c.begin-to.ensures size c.replace_bytes.new.bytes.items run c.replace_ends.new.ends.items ends

pub invariant_of-self-2 : goal.invariant_of-self-2
invariant_of-self-2 g c = valid_of _ _ _ (spliced g c)

pub returns-clause-ok : goal.returns-clause-ok
returns-clause-ok g c = view_of _ _ _ (spliced g c)

pub overflow_sub-to : goal.overflow_sub-to
overflow_sub-to g c = omega (arith, c.begin-from.ensures, c.begin-to.ensures, begin_of-mono c.args.self.now c.args.start c.args.end c.requires.order)
