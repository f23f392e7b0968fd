use Rattle.std.proofs.Common.{◌<◌, length, arith}
use Rattle.dm_repo.proofs.GlanceLemmas.{glance_at, glances_length}
use Rattle.dm_repo.proofs.repo.Repo.glance.Goals as goal

pub index-requires : goal.index-requires
index-requires g c =
    let r = rw (← c.self.view_is) at c.requires in
    let n = glances_length c.self.inside.patches.items c.self.inside.glances.items c.self.invariant.1.1 in
    omega (arith, r, n)

pub returns : goal.returns
returns g c =
    let gs = c.self.inside.glances.items in
    let xs = c.self.inside.patches.items in
    let r = rw (← c.self.view_is) at c.requires in
    let n = glances_length xs gs c.self.invariant.1.1 in
    let l : c.args.i < length gs = omega (arith, r, n) in
    λ x e. glance_at xs gs c.args.i c.index.result.now c.self.invariant.1.1 l c.index.ensures x (rw (← c.self.view_is) at e)
