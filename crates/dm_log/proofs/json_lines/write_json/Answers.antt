use Rattle.std.proofs.Common.{◌≡◌, ◌<◌, ◌≤◌, ◌+◌, length, get_or, take_all, sym, ap, subst, ◌∙◌, arith}
use Rattle.std.specs.Prelude.{slice_get, Some}
use Rattle.std.specs.List.{All, flat_map}
use Rattle.dm_log.specs.Choices.{chosen, count_of, place_of, placed_from}
use Rattle.dm_log.specs.Json.{ReadsBack, json_line}
use Rattle.dm_log.proofs.JsonLemmas.{flat_turn, holds_turn}
use Rattle.dm_log.proofs.LogLemmas.{at_chosen, at_placed, long_chosen, long_placed}
use Rattle.dm_log.proofs.json_lines.write_json.Goals as goal

pub loop-k-preserved : goal.loop-k-preserved
loop-k-preserved g c =
    let o = c.args.options in
    let ps = g.P.Patches.patches c.args.patches.now in
    let all = placed_from 1 ps in
    let k = c.loop-k.k in
    let i = c.place_of-i.result in
    let p = c.at.result.now in
    let few : c.count_of-count.result ≡ count_of o.last (length all) = c.count_of-count.ensures.value ∙ ap (count_of o.last) (c.count-all.ensures ∙ sym (long_placed 1 ps)) in
    let lt : k < count_of o.last (length all) = omega (arith, c.loop-k-test.true, few) in
    let place : i ≡ place_of o.reverse (length all) (count_of o.last (length all)) k =
    c.place_of-i.ensures.value ∙ ap (λ n. place_of o.reverse n c.count_of-count.result k) (c.count-all.ensures ∙ sym (long_placed 1 ps)) ∙ ap (λ n. place_of o.reverse (length all) n k) few in
    let there : slice_get all i ≡ Some (1 + i, p) = at_placed 1 ps i p c.at.ensures in
    let turned : 1 + i ≡ i + 1 = omega arith in
    let at : get_or (chosen o all) k (i + 1, p) ≡ (i + 1, p) = at_chosen o all k (i + 1, p) lt (ap (λ n. slice_get all n) (sym place) ∙ there ∙ ap (λ n. Some (n, p)) turned) in
    let within : k < length (chosen o all) = omega (arith, lt, long_chosen o all) in (
      flat_turn json_line (chosen o all) k (i + 1, p) c.loop-k.text.items c.push_line.new.out.items within at c.loop-k.invariant.0 c.in_ok-push_line.ensures.text,
      holds_turn ReadsBack (chosen o all) k (i + 1, p) within at c.loop-k.invariant.1 c.in_ok-push_line.ensures.reads_back,
    )

pub returns-clause-text : goal.returns-clause-text
returns-clause-text g c =
    let o = c.args.options in
    let ps = g.P.Patches.patches c.args.patches.now in
    let all = placed_from 1 ps in
    let few : c.count_of-count.result ≡ count_of o.last (length all) = c.count_of-count.ensures.value ∙ ap (count_of o.last) (c.count-all.ensures ∙ sym (long_placed 1 ps)) in
    let done : length (chosen o all) ≤ c.loop-k.k = omega (arith, long_chosen o all, few, c.loop-k-test.false) in
    c.loop-k.invariant.0 ∙ ap (λ qs. flat_map json_line qs) (take_all c.loop-k.k (chosen o all) done)

pub returns-clause-reads_back : goal.returns-clause-reads_back
returns-clause-reads_back g c =
    let o = c.args.options in
    let ps = g.P.Patches.patches c.args.patches.now in
    let all = placed_from 1 ps in
    let few : c.count_of-count.result ≡ count_of o.last (length all) = c.count_of-count.ensures.value ∙ ap (count_of o.last) (c.count-all.ensures ∙ sym (long_placed 1 ps)) in
    let done : length (chosen o all) ≤ c.loop-k.k = omega (arith, long_chosen o all, few, c.loop-k-test.false) in
    subst (All ReadsBack) (take_all c.loop-k.k (chosen o all) done) c.loop-k.invariant.1
