use Rattle.std.proofs.Common.{◌≡◌, ◌-◌, ◌+◌, ◌<◌, ◌≤◌, ◌++◌, ◌∷◌, [], ℕ, length, drop, ap, refl, sym, subst, arith, ◌∙◌}
use Rattle.std.proofs.lemmas.List.{drop_all}
use Rattle.dm_repo.specs.Squares.{placed_from, patches}
use Rattle.dm_repo.specs.Nearby.{marked}
use Rattle.dm_repo.specs.Trials.{undo, undo_all}
use Rattle.dm_repo.proofs.NearTakenBack.{UndoneFrom, undone_here, undone_over}
use Rattle.dm_repo.proofs.trial.undone_marked.Goals as goal

pub loop-k-init : goal.loop-k-init
loop-k-init g c =
    let xs = c.args.list.now in
    let n : length xs ≤ length xs - 0 = omega arith in
    rw c.new-copies.ensures.items (ap (λ z. undo_all (patches (marked c.args.marks.now (placed_from (length xs - 0) z)))) (sym (drop_all (length xs - 0) xs n)))

pub loop-k-preserved-then-not-marks-place : goal.loop-k-preserved-then-not-marks-place
loop-k-preserved-then-not-marks-place g c =
    let xs = c.args.list.now in
    let p : ℕ = length xs - 1 - c.loop-k.k in
    let here : p + 1 ≡ length xs - c.loop-k.k = omega (arith, c.requires.kept, c.loop-k-test.true) in
    let next : p ≡ length xs - (c.loop-k.k + 1) = omega (arith) in
    subst (λ z. UndoneFrom xs c.args.marks.now z c.loop-k.copies.items) next
    (undone_over xs c.args.marks.now p c.loop-k.copies.items (omega (arith, c.requires.kept, c.loop-k-test.true)) c.if-not-marks-place.true (subst (λ z. UndoneFrom xs c.args.marks.now z c.loop-k.copies.items) (sym here) c.loop-k.invariant))

pub loop-k-preserved : goal.loop-k-preserved
loop-k-preserved g c =
    let xs = c.args.list.now in
    let ys = c.loop-k.copies.items in
    let x = c.index-list-place.result in
    let p : ℕ = length xs - 1 - c.loop-k.k in
    let here : p + 1 ≡ length xs - c.loop-k.k = omega (arith, c.requires.kept, c.loop-k-test.true) in
    let next : p ≡ length xs - (c.loop-k.k + 1) = omega (arith) in
    let e : c.push.new.self.items ≡ ys ++ (p, undo x) ∷ [] = c.in_ok-push.ensures.items ∙ ap (λ z. ys ++ (p, z) ∷ []) (c.undo.ensures ∙ ap undo (c.new-copy.ensures ∙ c.in_ok-copy_into.ensures)) in
    subst (λ z. UndoneFrom xs c.args.marks.now z c.push.new.self.items) next
    (rw e (undone_here xs c.args.marks.now p x ys (omega (arith, c.requires.kept, c.loop-k-test.true)) c.index-list-place.is c.if-not-marks-place.false (subst (λ z. UndoneFrom xs c.args.marks.now z ys) (sym here) c.loop-k.invariant)))

pub returns : goal.returns
returns g c =
    let xs = c.args.list.now in
    let e : length xs - c.loop-k.k ≡ c.args.kept = omega (arith, c.requires.kept, c.loop-k-test.false, c.loop-k.auto.k-end) in
    subst (λ z. UndoneFrom xs c.args.marks.now z c.loop-k.copies.items) e c.loop-k.invariant
