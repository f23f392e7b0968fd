use Rattle.std.proofs.Common.{◌++◌, take}
use Rattle.std.proofs.lemmas.Result.{err_from_is_err_and}
use Rattle.dm_repo.specs.Squares.{placed}
use Rattle.dm_repo.specs.declared.policy.Policy.{Policy}
use Rattle.dm_repo.specs.declared.policy.Policy.TheVariants.{Refuse}
use Rattle.dm_repo.proofs.RefusalLemmas.{before_fit, split_before}
use Rattle.dm_repo.proofs.Steps.{split_to_weigh}
use Rattle.dm_repo.proofs.basis.split_both.Goals as goal

pub split_repo-requires-clause-marked : goal.split_repo-requires-clause-marked
split_repo-requires-clause-marked g c = rw c.deref.ensures.value at c.kept_in_place-kept.ensures.marked

pub split_repo-requires-clause-within : goal.split_repo-requires-clause-within
split_repo-requires-clause-within g c = rw c.deref.ensures.value at c.kept_in_place-kept.ensures.within

pub returns-clause-within : goal.returns-clause-within
returns-clause-within g c = rw (← c.requires.common, ← c.deref.ensures.value) c.kept_in_place-kept.ensures.within

pub returns-in_err-parted-clause-split : goal.returns-in_err-parted-clause-split
returns-in_err-parted-clause-split g c = λ b e found.
    let p = err_from_is_err_and c.from_residual.result c.from_residual.ensures.1 in
    let stops = c.in_err-parted.ensures b found.marked in
    let repo = c.args.repo.now.patches in
    rw (p.1, p.2) (before_fit repo b _ (split_before repo b _ stops), λ policy. split_to_weigh repo b policy _ found.prerequisites stops)

pub returns-in_err-new-clause-split : goal.returns-in_err-new-clause-split
returns-in_err-new-clause-split g c = λ b e found.
    let repo = c.args.repo.now.patches in
    let front = placed (take c.kept_in_place-kept.result repo) ++ c.in_ok-parted.parted.front.items in
    let p = err_from_is_err_and c.from_residual-in_err-new.result c.from_residual-in_err-new.ensures.1 in
    let refuses = λ (policy : Policy). c.in_err-new.ensures repo b policy front c.in_ok-parted.parted.rest.items e found (record { prerequisites = found.prerequisites; split = c.in_ok-parted.ensures b found.marked }) in
    rw (p.1, p.2) (before_fit repo b _ (refuses Refuse).0, λ policy. (refuses policy).1)

pub returns-clause-split : goal.returns-clause-split
returns-clause-split g c = λ b e found.
    let repo = c.args.repo.now.patches in
    let front = placed (take c.kept_in_place-kept.result repo) ++ c.in_ok-parted.parted.front.items in
    c.in_ok-new.ensures repo b Refuse front c.in_ok-parted.parted.rest.items e found (record { prerequisites = found.prerequisites; split = c.in_ok-parted.ensures b found.marked })
