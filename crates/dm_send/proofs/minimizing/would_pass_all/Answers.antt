use Rattle.std.proofs.Common.{rules, ◌≡◌, [], true, false, refl}
use Rattle.std.proofs.lemmas.List.{take_all}
use borrow.Author.Rules.{scaled_Fits}
use Rattle.dm_prim.specs.Rectangles.{none}
use Rattle.dm_named.specs.Commuting.{NamedCommutes}
use Rattle.dm_repo.proofs.AskedRows.{set_same}
use Rattle.dm_repo.proofs.Squares.{named_one}
use Rattle.dm_send.proofs.Rows.{row_asked, row_stuck}
use Rattle.dm_send.proofs.minimizing.would_pass_all.Goals as goal

pub loop-k-init : goal.loop-k-init
loop-k-init g c = record { same = refl; passed = ([], none) }

pub returns-then-not-branch-clause-row : goal.returns-then-not-branch-clause-row
returns-then-not-branch-clause-row g c =
    let no : c.in_ok-would_pass.field-0 ≡ false = c.if-not-branch.true in
    let y = c.index-row-k.result in
    let stop = rw (no, ← c.index-row-k.is) at c.in_ok-would_pass.ensures.square in
    row_stuck NamedCommutes named_one c.args.row.now c.loop-k.k y c.loop-k-test.true (rw c.loop-k.invariant.same at c.index-row-k.is) c.loop-k.invariant.passed.1 stop

pub loop-k-preserved : goal.loop-k-preserved
loop-k-preserved g c =
    let yes : c.in_ok-would_pass.field-0 ≡ true = c.if-not-branch.false in
    let y = c.index-row-k.result in
    let s = rw yes at c.in_ok-would_pass.ensures.square in
    let before = c.loop-k.invariant in
    record {
      same = set_same c.args.row.now c.loop-k.row c.loop-k.k c.would_pass.new.next y before.same c.would_pass.ensures.same;
      passed = (_, row_asked NamedCommutes c.args.row.now c.loop-k.row c.loop-k.k y c.loop-k-test.true before.same before.passed.1 s.1);
    }

pub offset_bounds-row-k : goal.offset_bounds-row-k
offset_bounds-row-k g c = scaled_Fits _ _ _ c.loop-k-test.true (search rules)

pub returns-in_err-would_pass-clause-same : goal.returns-in_err-would_pass-clause-same
returns-in_err-would_pass-clause-same g c = set_same c.args.row.now c.loop-k.row c.loop-k.k c.would_pass.new.next c.index-row-k.result c.loop-k.invariant.same c.would_pass.ensures.same

pub returns : goal.returns
returns g c = record { same = c.loop-k.invariant.same; row = rw (take_all c.loop-k.k c.args.row.now c.loop-k-test.false) at c.loop-k.invariant.passed }
