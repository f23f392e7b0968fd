use Rattle.std.proofs.Common.{◌≡◌, ◌-◌, ◌<◌, ◌≤◌, ◌++◌, length, take, drop, sym, ap, subst, ◌∙◌, arith, rules, length-drop, length-take-le, take_all, append-nil, append_assoc}
use Rattle.std.proofs.lemmas.Bool.Decides.{nat_tests}
use Rattle.std.proofs.Output.{has_written_append}
use Rattle.std.specs.Fmt.{HasWritten}
use Rattle.bstr.proofs.lemmas.PieceLemmas.{piece-bounds}
use Rattle.dm_quoted.specs.Quoting.{shown_from, shown_piece}
use Rattle.dm_quoted.proofs.Pieces.{shown-step, shown-none}
use Rattle.dm_quoted.proofs.write_pieces.Goals as goal

pub slice_bounds-write_piece-end : goal.slice_bounds-write_piece-end
slice_bounds-write_piece-end g c =
    let bs = c.pieces.rest.now in
    let size = c.decode-found.result.1 in
    let some : 0 < length bs = grind (arith, nat_tests, c.is_empty.ensures, c.pieces-test.true) in
    let bounds = subst (λ k. (1 ≤ k) × (k ≤ 4) × (k ≤ length bs)) (sym c.decode-found.ensures.size) (piece-bounds bs some) in
    sym (length-take-le size bs bounds.2)

pub slice_bounds-rest-count : goal.slice_bounds-rest-count
slice_bounds-rest-count g c =
    let bs = c.pieces.rest.now in
    let some : 0 < length bs = grind (arith, nat_tests, c.is_empty.ensures, c.pieces-test.true) in
    let bounds = subst (λ k. (1 ≤ k) × (k ≤ 4) × (k ≤ length bs)) (sym c.decode-found.ensures.size) (piece-bounds bs some) in
    bounds.2

pub slice_bounds-rest-start : goal.slice_bounds-rest-start
slice_bounds-rest-start g c =
    let bs = c.pieces.rest.now in
    let some : 0 < length bs = grind (arith, nat_tests, c.is_empty.ensures, c.pieces-test.true) in
    let bounds = subst (λ k. (1 ≤ k) × (k ≤ 4) × (k ≤ length bs)) (sym c.decode-found.ensures.size) (piece-bounds bs some) in
    bounds.2

pub pieces-smaller : goal.pieces-smaller
pieces-smaller g c =
    let bs = c.pieces.rest.now in
    let size = c.decode-found.result.1 in
    let some : 0 < length bs = grind (arith, nat_tests, c.is_empty.ensures, c.pieces-test.true) in
    let bounds = subst (λ k. (1 ≤ k) × (k ≤ 4) × (k ≤ length bs)) (sym c.decode-found.ensures.size) (piece-bounds bs some) in
    let whole : take (length bs - size) (drop size bs) ≡ drop size bs = take_all _ _ (omega (arith, length-drop size bs)) in
    let smaller : length (take (length bs - size) (drop size bs)) < length bs = omega (arith, ap length whole, length-drop size bs, bounds.0) in
    smaller

pub pieces-preserved : goal.pieces-preserved
pieces-preserved g c plain =
    let bs = c.pieces.rest.now in
    let found = c.decode-found.result.0 in
    let size = c.decode-found.result.1 in
    let some : 0 < length bs = grind (arith, nat_tests, c.is_empty.ensures, c.pieces-test.true) in
    let now = c.pieces.invariant plain in
    let step : shown_from c.args.manner (length bs) bs ≡ shown_piece c.args.manner found (take size bs) ++ shown_from c.args.manner (length (drop size bs)) (drop size bs) =
    rw (c.decode-found.ensures.char, c.decode-found.ensures.size) (shown-step c.args.manner bs some) in
    let whole : take (length bs - size) (drop size bs) ≡ drop size bs = take_all _ _ (omega (arith, length-drop size bs)) in
    let shown = shown_piece c.args.manner found (take size bs) in (
      now.0 ++ shown,
      has_written_append _ _ _ _ _ _ now.1 (search rules),
      ap (λ l. (now.0 ++ shown) ++ shown_from c.args.manner (length l) l) whole ∙ append_assoc now.0 shown _ ∙ ap (λ l. now.0 ++ l) (sym step) ∙ now.2,
    )

pub returns : goal.returns
returns g c = λ plain ok.
    let now = c.pieces.invariant plain in
    let none : length c.pieces.rest.now ≡ 0 = grind (arith, nat_tests, c.is_empty.ensures, c.pieces-test.false) in
    subst (λ l. HasWritten g.W.Write.write_str_gives c.args.f.now l c.pieces.f)
    (sym (append-nil now.0) ∙ ap (λ l. now.0 ++ l) (sym (shown-none c.args.manner c.pieces.rest.now none)) ∙ now.2) now.1
