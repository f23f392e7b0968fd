use Rattle.std.proofs.Common.{rules, refl, map, length, ◌≤◌, arith}
use borrow.Author.Rules.{scaled_Fits}
use Rattle.std.proofs.lemmas.List.{take_all}
use Rattle.dm_repo.specs.Merging.{MergePastStops, MergeStops}
use Rattle.dm_repo.specs.Squares.{Placed, PlacedMerges, undone}
use Rattle.dm_repo.proofs.Staircases.{merge_narrow}
use Rattle.dm_repo.proofs.RowSteps.{merge_step, merge_stop}
use Rattle.dm_repo.proofs.Splits.{blocks_at}
use Rattle.dm_repo.proofs.merge.merge_all.Goals as goal

pub loop-k-init : goal.loop-k-init
loop-k-init g c = record { merged = merge_narrow Placed PlacedMerges (map undone c.args.rest.now); ahead = refl }

pub loop-k-preserved : goal.loop-k-preserved
loop-k-preserved g c =
    let s = merge_step PlacedMerges c.args.new.now c.loop-k.new c.loop-k.k c.index-new-k.result c.merge_past.new.patch c.loop-k-test.true c.loop-k.auto.new c.loop-k.invariant.ahead c.index-new-k.is c.loop-k.invariant.merged (rw (← c.index-new-k.is) at c.in-Ok.ensures) in
    record { merged = s.0; ahead = s.1 }

pub returns-in-Err : goal.returns-in-Err
returns-in-Err g c =
    rw (c.blocked.ensures, ← c.index-new-k.is)
    (blocks_at c.index-new-k.result (MergePastStops PlacedMerges (map undone c.loop-k.rest) c.index-new-k.result) (MergeStops PlacedMerges (map undone c.args.rest.now) c.args.new.now) c.in-Err.stop
    (λ r s. merge_stop PlacedMerges c.args.new.now c.loop-k.new c.loop-k.k c.index-new-k.result r c.loop-k-test.true c.loop-k.auto.new c.loop-k.invariant.ahead c.index-new-k.is c.loop-k.invariant.merged s)
    (rw (← c.index-new-k.is) at c.in-Err.ensures))

pub returns : goal.returns
returns g c =
    let l : length c.loop-k.new ≤ c.loop-k.k = omega (arith, c.loop-k-test.false, c.loop-k.auto.new) in
    rw (take_all c.loop-k.k c.args.new.now c.loop-k-test.false, take_all c.loop-k.k c.loop-k.new l) at c.loop-k.invariant.merged

pub offset_bounds-new-k : goal.offset_bounds-new-k
offset_bounds-new-k g c = scaled_Fits _ _ _ c.loop-k-test.true (search rules)
