use Rattle.std.proofs.Common.{inl, refl}
use Rattle.std.proofs.lemmas.Result.{err_from_is_err_and}
use Rattle.dm_repo.proofs.Following.{nothing_left}
use Rattle.dm_repo.proofs.weighed.weigh_whole.Goals as goal

pub returns-in_err-sides : goal.returns-in_err-sides
returns-in_err-sides g c = λ b e found. let p = err_from_is_err_and c.from_residual.result c.from_residual.ensures.1 in rw (p.1, p.2) ((c.in_err-sides.ensures.split b e found).1 c.args.policy)

pub returns-then-is_empty : goal.returns-then-is_empty
returns-then-is_empty g c = λ b e found.
    let rest = c.in_ok-sides.sides.rest in
    c.append_to_whole.ensures b c.args.policy _ (rw (nothing_left rest.items rest.len rest.ok.0 c.if-is_empty.ensures) at (c.in_ok-sides.ensures.split b e found))

pub fit_both-requires : goal.fit_both-requires
fit_both-requires g c = c.in_ok-sides.ensures.within

pub returns-in_err-fit_both : goal.returns-in_err-fit_both
returns-in_err-fit_both g c = λ b e found.
    let p = err_from_is_err_and c.from_residual-in_err-fit_both.result c.from_residual-in_err-fit_both.ensures.1 in
    rw (p.1, p.2) (c.in_err-fit_both.ensures b (c.in_ok-sides.ensures.split b e found) c.args.policy)

pub returns : goal.returns
returns g c = λ b e found. c.merge.ensures b c.in_ok-sides.sides.rest.items (inl refl) (c.in_ok-fit_both.ensures b (c.in_ok-sides.ensures.split b e found))
