use Rattle.std.proofs.Common.{refl}
use Rattle.std.specs.FinMap as map
use Rattle.dm_prim.specs.Prims.{prim_of}
use Rattle.dm_element.proofs.StandingLemmas.{leads_there, refused_leads}
use Rattle.dm_element.proofs.standing.leads.Goals as goal

pub returns-in-Err : goal.returns-in-Err
returns-in-Err g c = λ s e. refused_leads _ (prim_of c.args.prim.now) c.args.tree.now c.apply.new.tree c.apply.result c.in-Err.fault s c.refused.result e c.in-Err.is c.apply.ensures.change c.refused.ensures

pub returns : goal.returns
returns g c = λ s e. (
  record { map = map.get c.apply.new.tree; lawful = c.tree_is_lawful.ensures.lawful },
  refl,
  leads_there (prim_of c.args.prim.now) c.args.tree.now c.apply.new.tree c.apply.result c.in_default.field-0 s c.tree_is_lawful.ensures.lawful e c.in_default.is c.apply.ensures.change c.apply.ensures.fault c.tree_is_lawful.ensures.shallow,
)
