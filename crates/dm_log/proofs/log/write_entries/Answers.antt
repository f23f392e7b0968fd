use Rattle.std.proofs.Common.{◌≡◌, ◌<◌, ◌≤◌, ◌+◌, length, get_or, take_all, inl, inr, sym, ap, ◌∙◌, arith}
use Rattle.std.specs.Prelude.{codes, slice_get, Some}
use Rattle.std.specs.List.{join_by}
use Rattle.dm_log.specs.Choices.{chosen, count_of, long_entry, place_of, placed_from}
use Rattle.dm_log.proofs.LogLemmas.{at_chosen, at_placed, join_turn, long_chosen, long_placed}
use Rattle.dm_log.proofs.log.write_entries.Goals as goal
use Rattle.dm_log.proofs.log.write_entries.Goals.{then-k-gt0+in_ok-push, else-k-gt0}

pub loop-k-preserved : goal.loop-k-preserved
loop-k-preserved g c =
    let o = c.args.options in
    let ps = g.P.Patches.patches c.args.patches.now in
    let all = placed_from 1 ps in
    let k = c.loop-k.k in
    let i = c.place_of-i.result in
    let p = c.at.result.now in
    let long : length all ≡ length ps = long_placed 1 ps in
    let few : c.count_of-count.result ≡ count_of o.last (length all) = c.count_of-count.ensures.value ∙ ap (count_of o.last) (c.count-all.ensures ∙ sym long) in
    let lt : k < count_of o.last (length all) = omega (arith, c.loop-k-test.true, few) in
    let place : i ≡ place_of o.reverse (length all) (count_of o.last (length all)) k =
    c.place_of-i.ensures.value ∙ ap (λ n. place_of o.reverse n c.count_of-count.result k) (c.count-all.ensures ∙ sym long) ∙ ap (λ n. place_of o.reverse (length all) n k) few in
    let there : slice_get all i ≡ Some (1 + i, p) = at_placed 1 ps i p c.at.ensures in
    let turned : 1 + i ≡ i + 1 = omega arith in
    let at : get_or (chosen o all) k (i + 1, p) ≡ (i + 1, p) = at_chosen o all k (i + 1, p) lt (ap (λ n. slice_get all n) (sym place) ∙ there ∙ ap (λ n. Some (n, p)) turned) in
    join_turn (long_entry o) (chosen o all) k (i + 1, p) c.loop-k.text.items c.if-k-gt0.text.items c.push_long_entry.new.out.items (omega (arith, lt, long_chosen o all)) at c.loop-k.invariant
    (elim c.if-k-gt0.branch [ then-k-gt0+in_ok-push w ↦ inl (w.if-k-gt0.true, ap (λ v. v.items) w.text-is ∙ w.in_ok-push.ensures.items) | else-k-gt0 w ↦ inr (omega (arith, w.if-k-gt0.false), ap (λ v. v.items) w.text-is) ])
    c.in_ok-push_long_entry.ensures

pub returns : goal.returns
returns g c =
    let o = c.args.options in
    let ps = g.P.Patches.patches c.args.patches.now in
    let all = placed_from 1 ps in
    let few : c.count_of-count.result ≡ count_of o.last (length all) = c.count_of-count.ensures.value ∙ ap (count_of o.last) (c.count-all.ensures ∙ sym (long_placed 1 ps)) in
    let done : length (chosen o all) ≤ c.loop-k.k = omega (arith, long_chosen o all, few, c.loop-k-test.false) in
    c.loop-k.invariant ∙ ap (join_by (long_entry o) (codes "\n")) (take_all c.loop-k.k (chosen o all) done)
