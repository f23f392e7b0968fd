use Rattle.std.proofs.Common.{refl, sym, ◌∙◌}
use Rattle.dm_agree.proofs.Sames.{same_parts}
use Rattle.dm_agree.proofs.same.same_patch.Goals as goal

pub returns : goal.returns
returns g c = same_parts c.args.x.now c.args.y.now (sym c.info.ensures ∙ c.if-not-same.ensures.0 refl ∙ c.info-2.ensures) (sym c.deps.ensures ∙ c.if-not-same_infos.ensures.0 refl ∙ c.deps-2.ensures)
    (rw (c.prims.ensures, c.prims-2.ensures) at c.same_prims.ensures)
