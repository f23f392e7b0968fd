use Rattle.std.proofs.Common.{inr}
use Rattle.std.proofs.lemmas.Result.{err_from_is_err_and}
use Rattle.dm_repo.proofs.AsideMarks.{near_leaves}
use Rattle.dm_repo.proofs.AsideSplits.{to_aside}
use Rattle.dm_repo.proofs.weighed.weigh_nearby.Goals as goal

pub returns-in_err-sides : goal.returns-in_err-sides
returns-in_err-sides g c = λ b e found. let p = err_from_is_err_and c.from_residual.result c.from_residual.ensures.1 in rw (p.1, p.2) ((c.in_err-sides.ensures.split b e found).1 c.args.policy)

pub returns-in_err-fit_nearby : goal.returns-in_err-fit_nearby
returns-in_err-fit_nearby g c = λ b e found.
    let p = err_from_is_err_and c.from_residual-in_err-fit_nearby.result c.from_residual-in_err-fit_nearby.ensures.1 in
    rw (p.1, p.2) (c.in_err-fit_nearby.ensures b (c.in_ok-sides.ensures.split b e found) c.args.policy)

pub returns : goal.returns
returns g c = λ b e found.
    let s = c.in_ok-sides.ensures.split b e found in
    c.merge.ensures b s.full (inr (c.args.nearby.now.paths.items, s.leaves, s.new_near)) (c.in_ok-fit_nearby.ensures b s)

pub fit_nearby-requires-clause-within : goal.fit_nearby-requires-clause-within
fit_nearby-requires-clause-within g c = rw (c.in_ok-sides.ensures.kept, ← c.requires.common) c.requires.within

pub fit_nearby-requires-clause-below : goal.fit_nearby-requires-clause-below
fit_nearby-requires-clause-below g c = c.requires.nearby.below

pub fit_nearby-requires-clause-leaves : goal.fit_nearby-requires-clause-leaves
fit_nearby-requires-clause-leaves g c =
    rw c.in_ok-sides.ensures.kept
    (to_aside (near_leaves c.args.repo.now.patches c.args.kept c.args.marks.now.common.items c.args.new.items c.args.nearby.now.paths.items c.args.nearby.now.marks.items c.requires.nearby c.lawful.ensures))
