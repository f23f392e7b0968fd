use Rattle.std.proofs.Common.{rules, ◌≡◌, true, false, refl}
use Rattle.std.proofs.lemmas.List.{take_all}
use Rattle.dm_prim.specs.InTurn.{done}
use Rattle.dm_repo.specs.Folds.{PatchLeadsShallowly}
use Rattle.dm_repo.proofs.Applying.{run_step, fit_stops}
use Rattle.dm_repo.proofs.fit.fit.Goals as goal

pub loop-patch-init : goal.loop-patch-init
loop-patch-init g c = λ s e. (s, e, done)

pub returns-then-not-branch : goal.returns-then-not-branch
returns-then-not-branch g c = λ s e.
    let no : c.in_ok-apply_patch.field-0 ≡ false = search rules in
    let r = c.loop-patch.invariant s e in
    (c.patch-item.result, refl, fit_stops c.args.list.now c.loop-patch.patch-index c.patch-item.result c.loop-patch-test.true c.patch-item.is r.2 (rw (no, c.named.ensures) at (c.in_ok-apply_patch.ensures r.0 r.1)))

pub loop-patch-preserved : goal.loop-patch-preserved
loop-patch-preserved g c = λ s e.
    let yes : c.in_ok-apply_patch.field-0 ≡ true = search rules in
    let r = c.loop-patch.invariant s e in
    let t = rw (yes, c.named.ensures) at (c.in_ok-apply_patch.ensures r.0 r.1) in
    (t.0, t.1, run_step (λ x. x.1) PatchLeadsShallowly c.args.list.now c.loop-patch.patch-index c.patch-item.result c.loop-patch-test.true c.patch-item.is r.2 t.2)

pub returns : goal.returns
returns g c = λ s e.
    let r = c.loop-patch.invariant s e in
    (r.0, r.1, rw (take_all c.loop-patch.patch-index c.args.list.now c.loop-patch-test.false) at r.2)
