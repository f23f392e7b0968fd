use Rattle.std.proofs.Common.{◌∙◌}
use Rattle.dm_prim.specs.Prims.{prims_of}
use Rattle.dm_element.proofs.TrialLemmas.{part_tried}
use Rattle.dm_element.proofs.standing.stands.Goals as goal

pub returns : goal.returns
returns g c = λ s e. part_tried c.deref.result.now c.in_ok-touch.field-0 (prims_of c.args.shadow.now) c.args.tree.now c.in_ok-part.part s (c.deref.ensures.value ∙ c.into_paths-paths.ensures) c.in_ok-touch.ensures c.in_ok-part.ensures
    c.tree_is_lawful.ensures.shallow e _ c.lead_all.result c.lead_all.ensures
