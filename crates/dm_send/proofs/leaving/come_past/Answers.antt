use Rattle.std.proofs.Common.{rules, ◌<◌, ◌-◌, ◌≡◌, true, false, refl, length, arith}
use Rattle.std.proofs.lemmas.List.{drop_all}
use borrow.Author.Rules.{scaled_Fits}
use Rattle.dm_prim.specs.Rectangles.{empty}
use Rattle.dm_named.specs.Patches.{Patch}
use Rattle.dm_named.specs.Commuting.{NamedCommutes}
use Rattle.dm_repo.proofs.RowSteps.{pass_step, pass_stop}
use Rattle.dm_repo.proofs.Squares.{named_one}
use Rattle.dm_repo.proofs.Staircases.{pass_stops}
use Rattle.dm_send.proofs.leaving.come_past.Goals as goal

pub loop-k-init : goal.loop-k-init
loop-k-init g c = record { passed = rw (drop_all (length c.args.row.now) c.args.row.now (omega arith)) empty; ahead = refl }

pub unreachable-requires : goal.unreachable-requires
unreachable-requires g c =
    let no : c.in_ok-commute_named_in_place.field-0 ≡ false = c.if-not-branch.true in
    let stop = pass_stop NamedCommutes c.args.row.now c.loop-k.row c.loop-k.k c.index-row-k.result c.loop-k-test.true c.loop-k.auto.k c.loop-k.auto.row c.loop-k.invariant.ahead c.index-row-k.is c.loop-k.invariant.passed
    (rw no at c.in_ok-commute_named_in_place.ensures.commutes) in
    pass_stops Patch NamedCommutes named_one stop c.requires.would.2

pub loop-k-preserved : goal.loop-k-preserved
loop-k-preserved g c =
    let yes : c.in_ok-commute_named_in_place.field-0 ≡ true = c.if-not-branch.false in
    let s = pass_step NamedCommutes c.args.row.now c.loop-k.row c.loop-k.k c.index-row-k.result _ c.loop-k-test.true c.loop-k.auto.k c.loop-k.auto.row c.loop-k.invariant.ahead c.loop-k.invariant.passed
    (rw yes at c.in_ok-commute_named_in_place.ensures.commutes) in
    record { passed = s.0; ahead = s.1 }

pub offset_bounds-row-k : goal.offset_bounds-row-k
offset_bounds-row-k g c =
    let h : (c.loop-k.k - 1) < length c.args.row.now = omega (arith, c.loop-k-test.true, c.loop-k.auto.k) in
    scaled_Fits _ _ _ h (search rules)

pub returns : goal.returns
returns g c = let z : c.loop-k.k ≡ 0 = omega (arith, c.loop-k-test.false) in rw z at c.loop-k.invariant.passed
