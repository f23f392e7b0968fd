use Rattle.std.proofs.Common.{rules, ◌≡◌, true}
use Rattle.dm_repo.proofs.ClashLemmas.{undone_clash}
use Rattle.dm_repo.proofs.RowSteps.{merged_square}
use Rattle.dm_repo.proofs.clash.meet.Goals as goal

pub returns-in-Some-clause-square : goal.returns-in-Some-clause-square
returns-in-Some-clause-square g c =
    let same = c.merge_unchanged.ensures in
    undone_clash c.args.next.now c.args.patch.now (rw (c.named.ensures, c.named-2.ensures, same.next, same.patch) at (rw c.in-Some.is at c.in_ok-at.ensures))

pub returns-clause-square : goal.returns-clause-square
returns-clause-square g c =
    let yes : c.in_ok-commute_prims_in_place.field-0 ≡ true = search rules in
    let e = c.in_ok-commute_prims_in_place.ensures in
    let same = c.merge_unchanged.ensures in
    rw (← same.next, ← same.patch)
    (merged_square c.merge_unchanged.new.next c.merge_unchanged.new.patch c.commute_prims_in_place.new.y c.commute_prims_in_place.new.x e.x_stays e.y_stays (rw yes at e.prims))
