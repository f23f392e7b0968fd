use Rattle.std.proofs.Common.{rules, ap, length, ◌≤◌, get_or, arith}
use borrow.Author.Rules.{scaled_Fits}
use Rattle.std.proofs.lemmas.List.{take_all}
use Rattle.dm_named.specs.Patches.{Patch}
use Rattle.dm_repo.specs.Squares.{Placed, undone}
use Rattle.dm_repo.proofs.RowSteps.{map_step}
use Rattle.dm_repo.proofs.merge.undo_all.Goals as goal

pub loop-k-preserved : goal.loop-k-preserved
loop-k-preserved g c =
    let x : Placed = get_or c.loop-k.patches c.loop-k.k c.index-patches-k.result in
    let e = ap (λ (p : Patch). (x.0, p)) c.undo.ensures in
    let s = map_step undone c.args.patches.now c.loop-k.patches c.loop-k.k c.index-patches-k.result (x.0, c.undo.new.self) c.loop-k-test.true c.loop-k.auto.patches c.loop-k.invariant.ahead c.loop-k.invariant.undone_so_far e in
    record { undone_so_far = s.0; ahead = s.1 }

pub returns : goal.returns
returns g c =
    let l : length c.loop-k.patches ≤ c.loop-k.k = omega (arith, c.loop-k-test.false, c.loop-k.auto.patches) in
    rw (take_all c.loop-k.k c.args.patches.now c.loop-k-test.false, take_all c.loop-k.k c.loop-k.patches l) at c.loop-k.invariant.undone_so_far

pub offset_bounds-patches-k : goal.offset_bounds-patches-k
offset_bounds-patches-k g c = scaled_Fits _ _ _ c.loop-k-test.true (search rules)
