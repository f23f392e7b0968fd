use Rattle.std.proofs.Common.{◌∙◌, ap}
use Rattle.dm_prim.specs.Primitives.{inv_all}
use Rattle.dm_named.specs.Patches.{Patch}
use Rattle.dm_named.proofs.NamedLemmas.{known_undone}
use Rattle.dm_named.proofs.passing.Passing.undo.Goals as goal

pub invariant_of-self : goal.invariant_of-self
invariant_of-self g c =
    known_undone c.self.inside.patch.prims c.replace_prims.new.self.prims c.self.inside.touched
    (ap (λ (p : Patch). p.prims) c.replace_prims.ensures.new ∙ c.invert_all.ensures ∙ ap inv_all c.replace_prims-prims.ensures.taken) c.self.invariant
