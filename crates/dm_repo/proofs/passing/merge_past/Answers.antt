use Rattle.std.proofs.Common.{rules, ◌≡◌, true, false, refl, sym, ap, arith, length, ◌≤◌}
use Rattle.std.proofs.lemmas.List.{take_all}
use borrow.Author.Rules.{scaled_Fits}
use Rattle.dm_repo.specs.Merging.{bare}
use Rattle.dm_repo.specs.Squares.{Placed, PlacedMerges, undone}
use Rattle.dm_repo.proofs.RowSteps.{merge_past_step, merge_past_stop, merged_square, no_merged_square}
use Rattle.dm_repo.proofs.passing.merge_past.Goals as goal

pub loop-k-init : goal.loop-k-init
loop-k-init g c = record { joined = bare; ahead = refl }

pub returns-then-not-branch : goal.returns-then-not-branch
returns-then-not-branch g c =
    let no : c.in_ok-commute_prims_in_place.field-0 ≡ false = c.if-not-branch.true in (
      undone c.index-rest-k.result,
      ap (λ (x : Placed). x.0) (sym c.index-rest-k.is),
      merge_past_stop undone PlacedMerges c.args.rest.now c.loop-k.rest c.loop-k.k c.index-rest-k.result c.loop-k-test.true c.loop-k.auto.rest c.loop-k.invariant.ahead c.index-rest-k.is c.loop-k.invariant.joined
          (no_merged_square _ c.loop-k.patch (rw no at c.in_ok-commute_prims_in_place.ensures.prims)),
    )

pub loop-k-preserved : goal.loop-k-preserved
loop-k-preserved g c =
    let yes : c.in_ok-commute_prims_in_place.field-0 ≡ true = c.if-not-branch.false in
    let e = c.in_ok-commute_prims_in_place.ensures in
    let s = merge_past_step undone PlacedMerges c.args.rest.now c.loop-k.rest c.loop-k.k c.index-rest-k.result _ c.loop-k-test.true c.loop-k.auto.rest c.loop-k.invariant.ahead c.loop-k.invariant.joined
    (merged_square _ c.loop-k.patch c.commute_prims_in_place.new.y c.commute_prims_in_place.new.x e.x_stays e.y_stays (rw yes at e.prims)) in
    record { joined = s.0; ahead = s.1 }

pub offset_bounds-rest-k : goal.offset_bounds-rest-k
offset_bounds-rest-k g c = scaled_Fits _ _ _ c.loop-k-test.true (search rules)

pub returns : goal.returns
returns g c =
    let l : length c.loop-k.rest ≤ c.loop-k.k = omega (arith, c.loop-k-test.false, c.loop-k.auto.rest) in
    rw (take_all c.loop-k.k c.args.rest.now c.loop-k-test.false, take_all c.loop-k.k c.loop-k.rest l) at c.loop-k.invariant.joined
