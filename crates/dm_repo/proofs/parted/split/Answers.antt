use Rattle.std.proofs.lemmas.Result.{err_from_is_err_and}
use Rattle.dm_repo.proofs.FoldLemmas.{split_folds}
use Rattle.dm_repo.proofs.Steps.{context_to_split}
use Rattle.dm_repo.proofs.parted.split.Goals as goal

pub returns-in_err-marks-clause-refusal : goal.returns-in_err-marks-clause-refusal
returns-in_err-marks-clause-refusal g c =
    let p = err_from_is_err_and c.from_residual.result c.from_residual.ensures.1 in rw (p.1, p.2) (context_to_split c.args.repo.now.patches c.args.bundle.now _ c.in_err-marks.ensures)

pub returns-in_err-halves-clause-refusal : goal.returns-in_err-halves-clause-refusal
returns-in_err-halves-clause-refusal g c =
    let p = err_from_is_err_and c.from_residual-in_err-halves.result c.from_residual-in_err-halves.ensures.1 in rw (p.1, p.2) (c.in_err-halves.ensures c.args.bundle.now c.in_ok-marks.ensures)

pub returns-clause-parts : goal.returns-clause-parts
returns-clause-parts g c =
    rw (c.in_ok-front.ensures, c.in_ok-rest.ensures)
    (record { knows = c.in_ok-marks.ensures.knows; split = c.in_ok-halves.ensures c.args.bundle.now c.in_ok-marks.ensures })

pub returns-clause-folds : goal.returns-clause-folds
returns-clause-folds g c = λ t. rw (c.in_ok-front.ensures, c.in_ok-rest.ensures) (split_folds c.args.repo.now.patches c.args.bundle.now _ _ (c.in_ok-halves.ensures c.args.bundle.now c.in_ok-marks.ensures) t)
