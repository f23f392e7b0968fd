use Rattle.std.proofs.Common.{ap, length, sym, ◌∙◌}
use Rattle.std.proofs.lemmas.List.{length-map}
use Rattle.std.proofs.lemmas.Result.{err_from_is_err_and}
use Rattle.dm_repo.proofs.RefusalLemmas.{before_fit}
use Rattle.dm_repo.proofs.basis.find_basis.Goals as goal

pub returns-in_err-marks : goal.returns-in_err-marks
returns-in_err-marks g c = let p = err_from_is_err_and c.from_residual.result c.from_residual.ensures.1 in rw (p.1, p.2) (before_fit c.args.repo.now.patches c.args.bundle.now _ c.in_err-marks.ensures.0, c.in_err-marks.ensures.1)

pub returns-in_default : goal.returns-in_default
returns-in_default g c = rw c.in_default.is at c.in_ok-marks.ensures

pub returns-in_err-new : goal.returns-in_err-new
returns-in_err-new g c = let p = err_from_is_err_and c.from_residual-in_err-new.result c.from_residual-in_err-new.ensures.1 in rw (p.1, p.2) (tt, λ policy. tt)

pub returns-in_err-sides : goal.returns-in_err-sides
returns-in_err-sides g c =
    let p = err_from_is_err_and c.from_residual-in_err-sides.result c.from_residual-in_err-sides.ensures.1 in
    rw (p.1, p.2) (c.in_err-sides.ensures.split c.args.bundle.now (sym (c.in_ok-new.ensures ∙ c.new_patches.ensures.value)) (rw c.in-Some.is at c.in_ok-marks.ensures))

pub returns-in_err-tree : goal.returns-in_err-tree
returns-in_err-tree g c =
    let split = c.in_ok-sides.ensures.split c.args.bundle.now (sym (c.in_ok-new.ensures ∙ c.new_patches.ensures.value)) (rw c.in-Some.is at c.in_ok-marks.ensures) in
    let p = err_from_is_err_and c.from_residual-in_err-tree.result c.from_residual-in_err-tree.ensures.1 in
    rw (p.1, p.2) (c.in_err-tree.ensures c.args.bundle.now c.in_ok-sides.sides.new.items split)

pub returns : goal.returns
returns g c =
    let split = c.in_ok-sides.ensures.split c.args.bundle.now (sym (c.in_ok-new.ensures ∙ c.new_patches.ensures.value)) (rw c.in-Some.is at c.in_ok-marks.ensures) in
    (_, split, c.in_ok-tree.ensures c.args.bundle.now c.in_ok-sides.sides.new.items split)

pub split_both-requires-clause-common : goal.split_both-requires-clause-common
split_both-requires-clause-common g c =
    let found = rw c.in-Some.is at c.in_ok-marks.ensures in
    found.marked.common_is.length_is ∙ length-map c.args.repo.now.patches (λ p. p.info)

pub split_both-requires-clause-held : goal.split_both-requires-clause-held
split_both-requires-clause-held g c =
    let found = rw c.in-Some.is at c.in_ok-marks.ensures in
    found.marked.held_is.length_is ∙ length-map c.args.bundle.now.patches (λ p. p.info) ∙ ap length (sym (c.in_ok-new.ensures ∙ c.new_patches.ensures.value))
