use Rattle.std.proofs.Common.{rules, ◌≡◌, ◌∙◌, ap, map, drop, length}
use Rattle.std.proofs.lemmas.Result.{err_from_is_err_and}
use Rattle.dm_repo.specs.Squares.{undone}
use Rattle.dm_repo.proofs.ClashLemmas.{found_only, found_refuses, found_told, none_conflict, nothing_conflicts}
use Rattle.dm_repo.proofs.Splits.{whole}
use Rattle.dm_repo.proofs.Steps.{undone_twice}
use Rattle.dm_repo.proofs.clash.find_clash.Goals as goal

pub returns-in_err-basis-clause-refusal : goal.returns-in_err-basis-clause-refusal
returns-in_err-basis-clause-refusal g c = let p = err_from_is_err_and c.from_residual.result c.from_residual.ensures.1 in rw (p.1, p.2) c.in_err-basis.ensures.1

pub returns-in_err-basis-clause-before : goal.returns-in_err-basis-clause-before
returns-in_err-basis-clause-before g c = let p = err_from_is_err_and c.from_residual.result c.from_residual.ensures.1 in rw (p.1, p.2) c.in_err-basis.ensures.0

pub returns-in_default-clause-merges : goal.returns-in_default-clause-merges
returns-in_default-clause-merges g c = nothing_conflicts c.args.repo.now.patches c.args.bundle.now (rw c.in_default.is at c.in_ok-basis.ensures)

pub returns-in_err-found-clause-refusal : goal.returns-in_err-found-clause-refusal
returns-in_err-found-clause-refusal g c = let p = err_from_is_err_and c.from_residual-in_err-found.result c.from_residual-in_err-found.ensures.1 in rw (p.1, p.2) (λ policy. tt)

pub returns-in_err-found-clause-before : goal.returns-in_err-found-clause-before
returns-in_err-found-clause-before g c = let p = err_from_is_err_and c.from_residual-in_err-found.result c.from_residual-in_err-found.ensures.1 in rw (p.1, p.2) tt

pub returns : goal.returns
returns g c =
    let repo = c.args.repo.now.patches in
    let b = c.args.bundle.now in
    let rest = c.in-Some.basis.rest.items in
    let new = c.in-Some.basis.new.items in
    let new' = c.first_clash.new.new in
    let rest' = map undone c.first_clash.new.rest in
    let found = c.in_ok-found.found in
    let fits = rw c.in-Some.is at c.in_ok-basis.ensures in
    let kept = whole c.undo_all.new.patches (drop (length c.undo_all.new.patches) rest) c.in-Some.basis.rest.len (search rules) in
    let e : c.as_mut_slice-2.result.now ≡ map undone rest = c.as_mut_slice-2.ensures.value ∙ kept ∙ c.undo_all.ensures ∙ ap (map undone) c.as_mut_slice.ensures.value in
    let f : map undone c.as_mut_slice-2.result.now ≡ rest = ap (map undone) e ∙ undone_twice rest in
    let finds = rw (f, c.as_mut_slice-3.ensures.value) at c.in_ok-found.ensures in
    record {
      told = found_told repo b rest new new' rest' fits found finds;
      refuses = found_refuses repo b rest new new' rest' fits found finds;
      only = found_only repo b rest new new' rest' fits found finds;
      merges = none_conflict repo b rest new new' rest' fits found finds;
      refusal = tt;
      before = tt;
    }
