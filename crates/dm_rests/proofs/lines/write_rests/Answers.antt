use Rattle.std.proofs.Common.{◌≡◌, ◌<◌, ◌≤◌, ◌+◌, ◌++◌, List, ℕ, [], length, get_or, take_all, sym, ap, subst, ◌∙◌, arith}
use Rattle.std.specs.Prelude.{slice_get, Some}
use Rattle.dm_named.specs.Patches.{Patch}
use Rattle.dm_log.specs.Choices.{chosen, count_of, place_of, placed_from}
use Rattle.dm_log.proofs.LogLemmas.{at_chosen, at_placed, long_chosen, long_placed}
use Rattle.dm_rests.specs.Rests.{IsRestsLine, LinesOf, nothing}
use Rattle.dm_rests.proofs.RestLemmas.{line_more}
use Rattle.dm_rests.proofs.lines.write_rests.Goals as goal

pub loop-k-init : goal.loop-k-init
loop-k-init c = subst (LinesOf (IsRestsLine c.args.repo.now.patches) []) (sym c.new-text.ensures.items) nothing

pub loop-k-preserved : goal.loop-k-preserved
loop-k-preserved c =
    let o = c.args.options in
    let ps = c.args.repo.now.patches in
    let all = placed_from 1 ps in
    let k = c.loop-k.k in
    let i = c.place_of-i.result in
    let p = c.patch.result.now in
    let few : c.count_of-count.result ≡ count_of o.last (length all) = c.count_of-count.ensures.value ∙ ap (count_of o.last) (c.len-all.ensures.value ∙ sym (long_placed 1 ps)) in
    let lt : k < count_of o.last (length all) = omega (arith, c.loop-k-test.true, few) in
    let place : i ≡ place_of o.reverse (length all) (count_of o.last (length all)) k =
    c.place_of-i.ensures.value ∙ ap (λ n. place_of o.reverse n c.count_of-count.result k) (c.len-all.ensures.value ∙ sym (long_placed 1 ps)) ∙ ap (λ n. place_of o.reverse (length all) n k) few in
    let there : slice_get all i ≡ Some (1 + i, p) = at_placed 1 ps i p c.patch.ensures in
    let turned : 1 + i ≡ i + 1 = omega arith in
    let at : get_or (chosen o all) k (i + 1, p) ≡ (i + 1, p) = at_chosen o all k (i + 1, p) lt (ap (λ n. slice_get all n) (sym place) ∙ there ∙ ap (λ n. Some (n, p)) turned) in
    let within : k < length (chosen o all) = omega (arith, lt, long_chosen o all) in
    subst (LinesOf (IsRestsLine ps) _) (sym (c.in_ok-extend_from_slice.ensures.items ∙ ap (λ (l : List ℕ). c.loop-k.text.items ++ l) c.deref.ensures.value))
    (line_more (IsRestsLine ps) (chosen o all) k (i + 1, p) c.loop-k.text.items c.in_ok-line.line.items within at c.loop-k.invariant c.in_ok-line.ensures)

pub returns : goal.returns
returns c =
    let o = c.args.options in
    let ps = c.args.repo.now.patches in
    let all = placed_from 1 ps in
    let few : c.count_of-count.result ≡ count_of o.last (length all) = c.count_of-count.ensures.value ∙ ap (count_of o.last) (c.len-all.ensures.value ∙ sym (long_placed 1 ps)) in
    let done : length (chosen o all) ≤ c.loop-k.k = omega (arith, long_chosen o all, few, c.loop-k-test.false) in
    subst (λ (qs : List (ℕ × Patch)). LinesOf (IsRestsLine ps) qs c.loop-k.text.items) (take_all c.loop-k.k (chosen o all) done) c.loop-k.invariant
