use Rattle.std.proofs.Common.{◌++◌, take}
use Rattle.dm_repo.proofs.basis.fit_on_part.Goals as goal

pub returns : goal.returns
returns g c = λ b split.
    let repo = c.args.repo.now.patches in
    let k = rw (c.deref.ensures.value, c.deref-2.ensures.value) at c.in_ok-part.ensures in
    let f = rw (c.deref-3.ensures.value, c.deref-4.ensures.value) at c.fit_to_part.ensures in
    f repo (take c.args.sides.now.kept repo) b c.args.sides.now.rest.items c.lawful.ensures k split
