use Rattle.std.proofs.Common.{rules, ◌<◌, ◌≤◌, ◌-◌, ◌≡◌, true, refl, ◌∙◌, length, arith}
use borrow.Author.Rules.{scaled_Fits}
use Rattle.std.proofs.lemmas.List.{drop_all}
use Rattle.dm_prim.specs.Rectangles.{empty}
use Rattle.dm_repo.specs.Squares.{PlacedCommutes}
use Rattle.dm_repo.proofs.AskedRows.{set_same, pass_on}
use Rattle.dm_repo.proofs.sifting.passes_unchanged.Goals as goal

pub loop-k-init : goal.loop-k-init
loop-k-init g c = record { same = refl; same_patch = refl; passed = rw (drop_all (length c.args.skipped.now) c.args.skipped.now (omega arith)) empty }

pub offset_bounds-skipped-k : goal.offset_bounds-skipped-k
offset_bounds-skipped-k g c =
    let o : 0 < c.loop-k.k = c.loop-k-test.true in
    let l : c.loop-k.k ≤ length c.args.skipped.now = c.loop-k.auto.k in
    let h : (c.loop-k.k - 1) < length c.args.skipped.now = omega (arith, o, l) in
    scaled_Fits _ _ _ h (search rules)

pub loop-k-preserved : goal.loop-k-preserved
loop-k-preserved g c =
    let yes : c.in_ok-pass_unchanged.field-0 ≡ true = c.if-not-branch.false in
    let x = c.index-skipped-k.result in
    let before = c.loop-k.invariant in
    let square = rw before.same_patch at (c.in_ok-pass_unchanged.ensures.square yes) in
    record {
      same = set_same c.args.skipped.now c.loop-k.skipped (c.loop-k.k - 1) c.pass_unchanged.new.next x before.same c.pass_unchanged.ensures.next;
      same_patch = c.pass_unchanged.ensures.patch ∙ before.same_patch;
      passed = pass_on PlacedCommutes c.args.skipped.now c.loop-k.skipped c.loop-k.k x c.loop-k-test.true c.loop-k.auto.k before.same before.passed square;
    }

pub returns-clause-row : goal.returns-clause-row
returns-clause-row g c = let z : c.loop-k.k ≡ 0 = omega (arith, c.loop-k-test.false) in λ yes. rw z at c.loop-k.invariant.passed

pub returns-in_err-pass_unchanged-clause-skipped : goal.returns-in_err-pass_unchanged-clause-skipped
returns-in_err-pass_unchanged-clause-skipped g c = set_same c.args.skipped.now c.loop-k.skipped (c.loop-k.k - 1) c.pass_unchanged.new.next c.index-skipped-k.result c.loop-k.invariant.same c.pass_unchanged.ensures.next

pub returns-in_err-pass_unchanged-clause-patch : goal.returns-in_err-pass_unchanged-clause-patch
returns-in_err-pass_unchanged-clause-patch g c = c.pass_unchanged.ensures.patch ∙ c.loop-k.invariant.same_patch

pub returns-then-not-branch-clause-skipped : goal.returns-then-not-branch-clause-skipped
returns-then-not-branch-clause-skipped g c = set_same c.args.skipped.now c.loop-k.skipped (c.loop-k.k - 1) c.pass_unchanged.new.next c.index-skipped-k.result c.loop-k.invariant.same c.pass_unchanged.ensures.next

pub returns-then-not-branch-clause-patch : goal.returns-then-not-branch-clause-patch
returns-then-not-branch-clause-patch g c = c.pass_unchanged.ensures.patch ∙ c.loop-k.invariant.same_patch
