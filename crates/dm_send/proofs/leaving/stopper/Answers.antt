use Rattle.std.proofs.Common.{rules, ◌<◌, ◌-◌, ◌≡◌, [], true, false, refl, sym, ap, length, arith, Some, ◌∙◌}
use Rattle.std.proofs.lemmas.List.{drop_all}
use Rattle.std.proofs.lemmas.Option.{slice_get-get_or}
use borrow.Author.Rules.{scaled_Fits}
use Rattle.dm_prim.specs.Rectangles.{empty}
use Rattle.dm_named.specs.Commuting.{NamedCommutes}
use Rattle.dm_repo.proofs.AskedRows.{ask_pass, ask_pass_stop, set_same}
use Rattle.dm_send.proofs.leaving.stopper.Goals as goal

pub loop-k-init : goal.loop-k-init
loop-k-init g c = record { same = refl; passed = ([], rw (drop_all (length c.args.row.now) c.args.row.now (omega arith), c.in_ok-asked.ensures) empty) }

pub returns-then-not-branch-clause-stops : goal.returns-then-not-branch-clause-stops
returns-then-not-branch-clause-stops g c =
    let no : c.in_ok-would_come.field-0 ≡ false = c.if-not-branch.true in
    let y = c.index-row-k.result in
    let j = c.loop-k.k in
    let before = c.loop-k.invariant in
    let here : (j - 1) < length c.args.row.now = omega (arith, c.loop-k-test.true, c.loop-k.auto.k) in
    let at = rw before.same at c.index-row-k.is in (
      y,
      slice_get-get_or c.args.row.now (j - 1) y here ∙ ap Some (sym at),
      ask_pass_stop NamedCommutes c.args.row.now c.loop-k.row j y c.loop-k-test.true c.loop-k.auto.k before.same c.index-row-k.is before.passed.1
          (rw no at c.in_ok-would_come.ensures.square),
    )

pub loop-k-preserved : goal.loop-k-preserved
loop-k-preserved g c =
    let yes : c.in_ok-would_come.field-0 ≡ true = c.if-not-branch.false in
    let y = c.index-row-k.result in
    let s = rw yes at c.in_ok-would_come.ensures.square in
    let before = c.loop-k.invariant in
    record {
      same = set_same c.args.row.now c.loop-k.row (c.loop-k.k - 1) c.would_come.new.before y before.same c.would_come.ensures.same;
      passed = (_, ask_pass NamedCommutes c.args.row.now c.loop-k.row c.loop-k.k y c.loop-k-test.true c.loop-k.auto.k before.same c.index-row-k.is before.passed.1 s.1);
    }

pub offset_bounds-row-k : goal.offset_bounds-row-k
offset_bounds-row-k g c =
    let h : (c.loop-k.k - 1) < length c.args.row.now = omega (arith, c.loop-k-test.true, c.loop-k.auto.k) in
    scaled_Fits _ _ _ h (search rules)

pub returns-in_err-would_come-clause-same : goal.returns-in_err-would_come-clause-same
returns-in_err-would_come-clause-same g c = set_same c.args.row.now c.loop-k.row (c.loop-k.k - 1) c.would_come.new.before c.index-row-k.result c.loop-k.invariant.same c.would_come.ensures.same

pub returns : goal.returns
returns g c =
    let z : c.loop-k.k ≡ 0 = omega (arith, c.loop-k-test.false) in
    let p = rw z at c.loop-k.invariant.passed in
    record { same = c.loop-k.invariant.same; stops = (_, p.0, p.1) }
