use Rattle.std.proofs.Common.{rules, ◌<◌, ◌≤◌, ◌-◌, ◌≡◌, true, false, refl, sym, ap, length, arith}
use borrow.Author.Rules.{scaled_Fits}
use Rattle.std.proofs.lemmas.List.{drop_all}
use Rattle.dm_prim.specs.Rectangles.{empty}
use Rattle.dm_repo.specs.Squares.{Placed, PlacedCommutes}
use Rattle.dm_repo.proofs.RowSteps.{pass_step, pass_stop, placed_square, no_placed_square}
use Rattle.dm_repo.proofs.passing.pass.Goals as goal

pub loop-k-init : goal.loop-k-init
loop-k-init g c = record { passed = rw (drop_all (length c.args.rest.now) c.args.rest.now (omega arith)) empty; ahead = refl }

pub returns-then-not-branch : goal.returns-then-not-branch
returns-then-not-branch g c =
    let no : c.in_ok-commute_named_in_place.field-0 ≡ false = c.if-not-branch.true in (
      c.index-rest-k.result,
      ap (λ (x : Placed). x.0) (sym c.index-rest-k.is),
      pass_stop PlacedCommutes c.args.rest.now c.loop-k.rest c.loop-k.k c.index-rest-k.result c.loop-k-test.true c.loop-k.auto.k c.loop-k.auto.rest c.loop-k.invariant.ahead c.index-rest-k.is c.loop-k.invariant.passed
          (no_placed_square _ c.loop-k.patch (rw no at c.in_ok-commute_named_in_place.ensures.commutes)),
    )

pub loop-k-preserved : goal.loop-k-preserved
loop-k-preserved g c =
    let yes : c.in_ok-commute_named_in_place.field-0 ≡ true = c.if-not-branch.false in
    let s = pass_step PlacedCommutes c.args.rest.now c.loop-k.rest c.loop-k.k c.index-rest-k.result _ c.loop-k-test.true c.loop-k.auto.k c.loop-k.auto.rest c.loop-k.invariant.ahead c.loop-k.invariant.passed
    (placed_square _ c.loop-k.patch c.commute_named_in_place.new.y c.commute_named_in_place.new.x (rw yes at c.in_ok-commute_named_in_place.ensures.commutes)) in
    record { passed = s.0; ahead = s.1 }

pub offset_bounds-rest-k : goal.offset_bounds-rest-k
offset_bounds-rest-k g c =
    let o : 0 < c.loop-k.k = c.loop-k-test.true in
    let l : c.loop-k.k ≤ length c.args.rest.now = c.loop-k.auto.k in
    let h : (c.loop-k.k - 1) < length c.args.rest.now = omega (arith, o, l) in
    scaled_Fits _ _ _ h (search rules)

pub returns : goal.returns
returns g c = let z : c.loop-k.k ≡ 0 = omega (arith, c.loop-k-test.false) in rw z at c.loop-k.invariant.passed
