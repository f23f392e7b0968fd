use Rattle.std.proofs.Common.{◌++◌, take}
use Rattle.std.proofs.lemmas.Result.{err_from_is_err_and}
use Rattle.dm_repo.proofs.NearSides.{names_of_near}
use Rattle.dm_repo.proofs.basis.fit_nearby.Goals as goal

pub returns-then-not-is_near_end : goal.returns-then-not-is_near_end
returns-then-not-is_near_end g c = λ b s. c.fit_from_root.ensures b s.full s.split

pub returns-in_err-part : goal.returns-in_err-part
returns-in_err-part g c = λ b s. let p = err_from_is_err_and c.from_residual.result c.from_residual.ensures.1 in rw (p.1, p.2) (λ policy. tt)

pub returns : goal.returns
returns g c = λ b s.
    let repo = c.args.repo.now.patches in
    let front = c.args.sides.now.front.items in
    let new = c.args.sides.now.new.items in
    let ps = c.args.nearby.now.paths.items in
    let k = c.in_ok-part.ensures front new (names_of_near ps front s.front_near) (names_of_near ps new s.new_near) in
    let f = rw (c.deref-2.ensures.value, c.deref-3.ensures.value) at c.fit_to_part.ensures in
    f repo (take c.args.sides.now.kept repo) b s.full c.lawful.ensures k s.split
