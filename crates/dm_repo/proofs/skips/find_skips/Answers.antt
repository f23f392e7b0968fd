use Rattle.std.proofs.Common.{rules, ◌∙◌, ap, map, drop, length}
use Rattle.std.proofs.lemmas.Result.{err_from_is_err_and}
use Rattle.dm_repo.specs.Skips.{AreSkips, nothing, sifted}
use Rattle.dm_repo.specs.Squares.{undone}
use Rattle.dm_repo.proofs.SkipLemmas.{are_counted}
use Rattle.dm_repo.proofs.Splits.{whole}
use Rattle.dm_repo.proofs.Steps.{undone_twice}
use Rattle.dm_repo.proofs.skips.find_skips.Goals as goal

pub returns-in_default-clause-told : goal.returns-in_default-clause-told
returns-in_default-clause-told g c = rw c.new.ensures.items (nothing (rw c.in_default.is at c.in_ok-basis.ensures))

pub returns-in_default-clause-counted : goal.returns-in_default-clause-counted
returns-in_default-clause-counted g c = rw c.new.ensures.items (are_counted c.args.repo.now.patches c.args.bundle.now (nothing (rw c.in_default.is at c.in_ok-basis.ensures)))

pub returns-in_err-basis-clause-refusal : goal.returns-in_err-basis-clause-refusal
returns-in_err-basis-clause-refusal g c = let p = err_from_is_err_and c.from_residual.result c.from_residual.ensures.1 in rw (p.1, p.2) c.in_err-basis.ensures.1

pub returns-in_err-basis-clause-before : goal.returns-in_err-basis-clause-before
returns-in_err-basis-clause-before g c = let p = err_from_is_err_and c.from_residual.result c.from_residual.ensures.1 in rw (p.1, p.2) c.in_err-basis.ensures.0

pub returns-in_err-sifted-clause-before : goal.returns-in_err-sifted-clause-before
returns-in_err-sifted-clause-before g c = let p = err_from_is_err_and c.from_residual-in_err-sifted.result c.from_residual-in_err-sifted.ensures.1 in rw (p.1, p.2) tt

pub returns : goal.returns
returns g c =
    let rest = c.in-Some.basis.rest in
    let fits = rw c.in-Some.is at c.in_ok-basis.ensures in
    let kept = whole c.undo_all.new.patches (drop (length c.undo_all.new.patches) rest.items) rest.len (search rules) in
    let e = kept ∙ c.undo_all.ensures ∙ ap (map undone) c.as_mut_slice.ensures.value in
    let told : AreSkips c.args.repo.now.patches c.args.bundle.now c.in_ok-sifted.sifted.skips.items = sifted fits (rw (e, undone_twice rest.items) at c.in_ok-sifted.ensures.sifts) in
    record { told = told; counted = are_counted c.args.repo.now.patches c.args.bundle.now told; refusal = tt; before = tt }
