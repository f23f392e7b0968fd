use Rattle.std.proofs.Common.{◌≡◌, ◌==◌, ◌∙◌, ◌++◌, ℕ, List, length, take, drop, ◌+◌, ◌-◌, sym, ap, append-nil, append_assoc}
use Rattle.std.specs.List.{flat_map, slice_split}
use Rattle.std.proofs.lemmas.List.{drop-drop, take_rest}
use Rattle.dm_named.proofs.NamedLemmas.{on_ok}
use Rattle.dm_log.specs.Verbose.{detail}
use Rattle.dm_log.proofs.SplitLemmas.{last_split, line_split}
use Rattle.dm_log.proofs.verbose.push_lines.Goals as goal

-- what is left behind a place, and behind the byte that stands there
behind : (rest : List ℕ) (k : ℕ) → take (length (take (length rest - k) (drop k rest)) - 1) (drop 1 (take (length rest - k) (drop k rest))) ≡ drop (k + 1) rest
behind rest k = take_rest (take (length rest - k) (drop k rest)) 1 ∙ ap (drop 1) (take_rest rest k) ∙ drop-drop 1 k rest

pub loop-end-preserved : goal.loop-end-preserved
loop-end-preserved g c =
    let rest = c.loop-end.rest.now in
    let k = c.in-Some.end in
    let next = drop (k + 1) rest in
    let lines : List ℕ → List ℕ = λ text. flat_map detail (slice_split (λ b. b == 10) text) in
    let parts : lines rest ≡ detail (take k rest) ++ lines next = ap (flat_map detail) (line_split rest k c.in-Some.ensures) in
    c.loop-end.invariant ∙ ap (λ t. c.loop-end.out.items ++ t) parts ∙ sym (append_assoc c.loop-end.out.items (detail (take k rest)) (lines next))
    ∙ ap (λ t. t ++ lines next) (sym c.in_ok-push_labelled.ensures) ∙ ap (λ r. c.push_labelled.new.out.items ++ lines r) (sym (behind rest k))

pub returns : goal.returns
returns g c =
    let rest = c.loop-end.rest.now in
    let parts : flat_map detail (slice_split (λ b. b == 10) rest) ≡ detail rest = ap (flat_map detail) (last_split rest c.in_default.ensures) ∙ append-nil (detail rest) in
    on_ok c.push_labelled-2.result (λ appended. appended ∙ ap (λ t. c.loop-end.out.items ++ t) (sym parts) ∙ sym c.loop-end.invariant) c.push_labelled-2.ensures
