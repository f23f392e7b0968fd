use Rattle.std.proofs.Common.{◌≡◌, ◌∙◌}
use Rattle.dm_prim.specs.Prims.{prims_of}
use Rattle.dm_named.proofs.named.Named.copy_into.Goals as goal

pub returns : goal.returns
returns g c =
    let same : prims_of c.in_ok-prims.prims.items ≡ c.args.self.now.prims = c.in_ok-prims.ensures ∙ c.prims.ensures in
    rw same at c.with_prims.ensures
