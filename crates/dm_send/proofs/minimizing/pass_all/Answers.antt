use Rattle.std.proofs.Common.{rules, ◌≡◌, true, false, refl, arith, length, ◌≤◌, ◌∙◌}
use Rattle.std.proofs.lemmas.List.{take_all}
use borrow.Author.Rules.{scaled_Fits}
use Rattle.dm_prim.specs.Rectangles.{none}
use Rattle.dm_named.specs.Commuting.{NamedCommutes}
use Rattle.dm_repo.proofs.RowSteps.{same_at}
use Rattle.dm_repo.proofs.Squares.{named_one}
use Rattle.dm_send.proofs.Rows.{row_step, row_stuck}
use Rattle.dm_send.proofs.minimizing.pass_all.Goals as goal

pub loop-k-init : goal.loop-k-init
loop-k-init g c = record { passed = none; ahead = refl }

pub unreachable-requires : goal.unreachable-requires
unreachable-requires g c =
    let no : c.in_ok-commute_named_in_place.field-0 ≡ false = c.if-not-branch.true in
    let y = c.index-row-k.result in
    let at = c.index-row-k.is ∙ (same_at c.args.row.now c.loop-k.row c.loop-k.k y c.loop-k-test.true c.loop-k.auto.row c.loop-k.invariant.ahead).0 in
    let stop = rw (no, ← c.index-row-k.is) at c.in_ok-commute_named_in_place.ensures.commutes in
    row_stuck NamedCommutes named_one c.args.row.now c.loop-k.k y c.loop-k-test.true at c.loop-k.invariant.passed stop c.requires.would.0 c.requires.would.1 c.requires.would.2

pub loop-k-preserved : goal.loop-k-preserved
loop-k-preserved g c =
    let yes : c.in_ok-commute_named_in_place.field-0 ≡ true = c.if-not-branch.false in
    let s = row_step NamedCommutes c.args.row.now c.loop-k.row c.loop-k.k c.index-row-k.result _ c.loop-k-test.true c.loop-k.auto.row c.loop-k.invariant.ahead c.loop-k.invariant.passed
    (rw yes at c.in_ok-commute_named_in_place.ensures.commutes) in
    record { passed = s.0; ahead = s.1 }

pub offset_bounds-row-k : goal.offset_bounds-row-k
offset_bounds-row-k g c = scaled_Fits _ _ _ c.loop-k-test.true (search rules)

pub returns : goal.returns
returns g c =
    let l : length c.loop-k.row ≤ c.loop-k.k = omega (arith, c.loop-k-test.false, c.loop-k.auto.row) in
    rw (take_all c.loop-k.k c.args.row.now c.loop-k-test.false, take_all c.loop-k.k c.loop-k.row l) at c.loop-k.invariant.passed
