use Rattle.std.proofs.Common.{rules, ◌≡◌, true, refl, ◌∙◌}
use Rattle.std.proofs.lemmas.List.{take_all}
use borrow.Author.Rules.{scaled_Fits}
use Rattle.dm_repo.specs.Merging.{bare}
use Rattle.dm_repo.specs.Squares.{PlacedMerges, undone}
use Rattle.dm_repo.proofs.AskedRows.{set_same, merge_on}
use Rattle.dm_repo.proofs.sifting.merges_unchanged.Goals as goal

pub loop-k-init : goal.loop-k-init
loop-k-init g c = record { same = refl; same_patch = refl; joined = bare }

pub loop-k-preserved : goal.loop-k-preserved
loop-k-preserved g c =
    let yes : c.in_ok-merge_unchanged.field-0 ≡ true = c.if-not-branch.false in
    let x = c.index-rest-k.result in
    let before = c.loop-k.invariant in
    let square = rw before.same_patch at (c.in_ok-merge_unchanged.ensures.square yes) in
    record {
      same = set_same c.args.rest.now c.loop-k.rest c.loop-k.k c.merge_unchanged.new.next x before.same c.merge_unchanged.ensures.next;
      same_patch = c.merge_unchanged.ensures.patch ∙ before.same_patch;
      joined = merge_on undone PlacedMerges c.args.rest.now c.loop-k.rest c.loop-k.k x c.loop-k-test.true before.same before.joined square;
    }

pub offset_bounds-rest-k : goal.offset_bounds-rest-k
offset_bounds-rest-k g c = scaled_Fits _ _ _ c.loop-k-test.true (search rules)

pub returns-in_err-merge_unchanged-clause-rest : goal.returns-in_err-merge_unchanged-clause-rest
returns-in_err-merge_unchanged-clause-rest g c = set_same c.args.rest.now c.loop-k.rest c.loop-k.k c.merge_unchanged.new.next c.index-rest-k.result c.loop-k.invariant.same c.merge_unchanged.ensures.next

pub returns-in_err-merge_unchanged-clause-patch : goal.returns-in_err-merge_unchanged-clause-patch
returns-in_err-merge_unchanged-clause-patch g c = c.merge_unchanged.ensures.patch ∙ c.loop-k.invariant.same_patch

pub returns-then-not-branch-clause-rest : goal.returns-then-not-branch-clause-rest
returns-then-not-branch-clause-rest g c = set_same c.args.rest.now c.loop-k.rest c.loop-k.k c.merge_unchanged.new.next c.index-rest-k.result c.loop-k.invariant.same c.merge_unchanged.ensures.next

pub returns-then-not-branch-clause-patch : goal.returns-then-not-branch-clause-patch
returns-then-not-branch-clause-patch g c = c.merge_unchanged.ensures.patch ∙ c.loop-k.invariant.same_patch

pub returns : goal.returns
returns g c = record {
  rest = c.loop-k.invariant.same;
  patch = c.loop-k.invariant.same_patch;
  row = λ yes. rw (take_all c.loop-k.k c.args.rest.now c.loop-k-test.false) at c.loop-k.invariant.joined;
}
