use Rattle.std.proofs.Common.{◌++◌, take}
use Rattle.std.proofs.lemmas.Result.{err_from_is_err_and}
use Rattle.dm_repo.proofs.Following.{makes_whole, nothing_left}
use Rattle.dm_repo.proofs.basis.front_tree.Goals as goal

pub returns-in_err-tree : goal.returns-in_err-tree
returns-in_err-tree g c = λ b new split. let p = err_from_is_err_and c.from_residual.result c.from_residual.ensures.1 in rw (p.1, p.2) (tt, λ policy. tt)

pub returns-then-is_empty : goal.returns-then-is_empty
returns-then-is_empty g c = λ b new split.
    let rest = c.args.sides.now.rest in
    makes_whole c.args.repo.now.patches b c.in_ok-tree.tree split (nothing_left rest.items rest.len rest.ok.0 c.if-is_empty.ensures) c.in_ok-tree.ensures

pub returns : goal.returns
returns g c = λ b new split. c.tree_from_root.ensures b c.args.sides.now.rest.items new split
