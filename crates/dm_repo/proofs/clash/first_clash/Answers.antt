use Rattle.std.proofs.Common.{rules, refl, map, arith, length, ◌≤◌}
use Rattle.std.proofs.lemmas.List.{take_all}
use borrow.Author.Rules.{scaled_Fits}
use Rattle.dm_repo.specs.Squares.{Placed, PlacedMerges, undone}
use Rattle.dm_repo.proofs.Staircases.{merge_narrow}
use Rattle.dm_repo.proofs.RowSteps.{merge_step}
use Rattle.dm_repo.proofs.ClashLemmas.{merge_clash}
use Rattle.dm_repo.proofs.clash.first_clash.Goals as goal

pub loop-k-init : goal.loop-k-init
loop-k-init g c = record { merged = merge_narrow Placed PlacedMerges (map undone c.args.rest.now); ahead = refl }

pub returns-in-Some : goal.returns-in-Some
returns-in-Some g c = merge_clash c.args.new.now c.loop-k.new c.loop-k.k c.index-new-k.result c.in-Some.clash c.loop-k-test.true c.loop-k.auto.new c.loop-k.invariant.ahead c.index-new-k.is c.loop-k.invariant.merged
    (rw (← c.index-new-k.is) at (rw c.in-Some.is at c.in_ok-clash.ensures))

pub loop-k-preserved : goal.loop-k-preserved
loop-k-preserved g c =
    let s = merge_step PlacedMerges c.args.new.now c.loop-k.new c.loop-k.k c.index-new-k.result c.clash_past.new.patch c.loop-k-test.true c.loop-k.auto.new c.loop-k.invariant.ahead c.index-new-k.is c.loop-k.invariant.merged
    (rw (← c.index-new-k.is) at (rw c.in_default.is at c.in_ok-clash.ensures)) in
    record { merged = s.0; ahead = s.1 }

pub offset_bounds-new-k : goal.offset_bounds-new-k
offset_bounds-new-k g c = scaled_Fits _ _ _ c.loop-k-test.true (search rules)

pub returns : goal.returns
returns g c =
    let l : length c.loop-k.new ≤ c.loop-k.k = omega (arith, c.loop-k-test.false, c.loop-k.auto.new) in
    rw (take_all c.loop-k.k c.args.new.now c.loop-k-test.false, take_all c.loop-k.k c.loop-k.new l) at c.loop-k.invariant.merged
