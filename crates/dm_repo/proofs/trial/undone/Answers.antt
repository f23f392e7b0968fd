use Rattle.std.proofs.Common.{◌≡◌, ◌-◌, ◌<◌, ◌++◌, ◌∷◌, [], ℕ, length, ap, arith, ◌∙◌}
use Rattle.dm_repo.specs.Squares.{patches}
use Rattle.dm_repo.specs.Trials.{undo}
use Rattle.dm_repo.proofs.UndoLemmas.{undo_each, undo_more}
use Rattle.dm_repo.proofs.trial.undone.Goals as goal

pub loop-k-preserved : goal.loop-k-preserved
loop-k-preserved g c =
    let xs = c.args.list.now in
    let ys = c.loop-k.copies.items in
    let x = c.index-list-place.result in
    let place : ℕ = length xs - 1 - c.loop-k.k in
    let l : c.loop-k.k < length xs = omega (arith, c.loop-k-test.true) in
    let e : c.push.new.self.items ≡ ys ++ (place, undo x) ∷ [] = c.in_ok-push.ensures.items ∙ ap (λ z. ys ++ (place, z) ∷ []) (c.undo.ensures ∙ ap undo (c.new-copy.ensures ∙ c.in_ok-copy_into.ensures)) in
    ap patches e ∙ undo_more xs c.loop-k.k place x ys l (omega (arith, l)) c.index-list-place.is c.loop-k.invariant

pub returns : goal.returns
returns g c = c.loop-k.invariant ∙ undo_each c.args.list.now c.loop-k.k c.loop-k-test.false
