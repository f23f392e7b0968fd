use Rattle.std.proofs.lemmas.Result.{err_from_is_err_and}
use Rattle.dm_repo.proofs.Making.{new_root}
use Rattle.dm_repo.proofs.OverflowLemmas.{front_told}
use Rattle.dm_repo.proofs.overflow.front_overflow.Goals as goal

pub returns-in_err-found : goal.returns-in_err-found
returns-in_err-found g c = let p = err_from_is_err_and c.from_residual-in_err-found.result c.from_residual-in_err-found.ensures.1 in rw (p.1, p.2) (tt, λ policy. tt)

pub returns : goal.returns
returns g c =
    let split = rw c.in-Some.is at c.in_ok-front.ensures in
    let root = new_root c.new-root.result c.new-root.ensures c.tree_is_lawful.ensures.lawful in
    front_told c.args.repo.now.patches c.args.bundle.now c.lawful.ensures split.2 root.2 c.in_ok-found.found (c.in_ok-found.ensures root.0 root.1)
