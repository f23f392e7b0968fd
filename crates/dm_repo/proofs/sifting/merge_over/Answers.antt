use Rattle.std.proofs.Common.{rules, ◌≡◌, true}
use Rattle.dm_repo.proofs.sifting.merge_over.Goals as goal

pub returns-then-not-branch : goal.returns-then-not-branch
returns-then-not-branch g c = rw (c.passes_unchanged.ensures.skipped, c.passes_unchanged.ensures.patch) at c.merge_meeting.ensures

pub returns-then-not-branch-2 : goal.returns-then-not-branch-2
returns-then-not-branch-2 g c =
    rw (c.passes_unchanged.ensures.skipped, c.merges_unchanged.ensures.rest, c.merges_unchanged.ensures.patch, c.passes_unchanged.ensures.patch) at c.merge_meeting-then-not-branch-2.ensures

pub returns : goal.returns
returns g c =
    let yes : c.in_ok-passes_unchanged.field-0 ≡ true = search rules in
    let free : c.in_ok-merges_unchanged.field-0 ≡ true = search rules in
    rw (c.passes_unchanged.ensures.skipped, c.merges_unchanged.ensures.rest, c.merges_unchanged.ensures.patch, c.passes_unchanged.ensures.patch) (record {
      between = c.args.patch.now;
      passes_skipped = c.in_ok-passes_unchanged.ensures.row yes;
      merges_past = rw c.passes_unchanged.ensures.patch at (c.in_ok-merges_unchanged.ensures.row free);
    })
