use Rattle.std.proofs.Common.{ap, sym, ◌∙◌}
use Rattle.dm_prim.specs.Prims.{prim_of}
use Rattle.dm_element.specs.Values.{element_of}
use Rattle.dm_element.proofs.StandingLemmas.{plain_told, after_told, before_told}
use Rattle.dm_element.proofs.standing.try_element.Goals as goal

pub returns-in-Plain : goal.returns-in-Plain
returns-in-Plain g c = λ s e. plain_told (element_of c.args.element.now) c.args.place s _ (prim_of c.in-Plain.prim) (ap element_of c.in-Plain.is) c.try_prim.result (c.try_prim.ensures s e)

pub returns-in-After : goal.returns-in-After
returns-in-After g c = λ s e. after_told (element_of c.args.element.now) c.args.place s _ c.in-Conflicted.conflict (ap element_of c.in-Conflicted.is) (sym c.side.ensures ∙ c.in-After.is) c.try_after.result (c.try_after.ensures s e)

pub returns-in-Before : goal.returns-in-Before
returns-in-Before g c = λ s e. before_told (element_of c.args.element.now) c.args.place s _ c.in-Conflicted.conflict (ap element_of c.in-Conflicted.is) (sym c.side.ensures ∙ c.in-Before.is) c.try_before.result (c.try_before.ensures s e)
