use Rattle.std.proofs.Common.{rules, ◌≡◌, true, ◌∙◌}
use Rattle.dm_repo.specs.Squares.{undone}
use Rattle.dm_repo.proofs.AskedRows.{tried_merge}
use Rattle.dm_repo.proofs.sifting.would_merge.Goals as goal

pub returns-then-branch-clause-square : goal.returns-then-branch-clause-square
returns-then-branch-clause-square g c =
    let yes : c.in_ok-merge_unchanged.field-0 ≡ true = search rules in
    (undone c.args.next.now, rw c.merge_unchanged.ensures.patch (c.in_ok-merge_unchanged.ensures.square yes))

pub returns-clause-square : goal.returns-clause-square
returns-clause-square g c =
    let same = c.merge_unchanged.ensures.patch in
    let e = c.in_ok-tried.ensures ∙ c.merge_unchanged.ensures.next in
    let t = c.in_ok-merges.ensures in
    rw same (tried_merge c.in_ok-merges.merges c.args.next.now c.args.patch.now c.in_ok-tried.tried c.commute_prims_in_place.new.y c.commute_prims_in_place.new.x e t.x_stays (rw same at t.y_stays) (rw same at t.prims))
