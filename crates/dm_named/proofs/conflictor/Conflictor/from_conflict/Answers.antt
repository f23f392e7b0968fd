use Rattle.std.proofs.Common.{◌≡◌, ◌++◌, ◌∷◌, [], sym, ◌∙◌}
use Rattle.dm_prim.specs.Prims.{prims_of}
use Rattle.dm_element.specs.Lists.{lists_of}
use Rattle.dm_named.proofs.ConflictLemmas.{whole_conflict, no_originals}
use Rattle.dm_named.proofs.conflictor.Conflictor.from_conflict.Goals as goal

pub returns-in_default-2 : goal.returns-in_default-2
returns-in_default-2 g c = no_originals c.args.conflict (lists_of c.into_parts-effect.result.1.items) c.into_parts-effect.ensures.shadows (rw c.in_default-2.is at c.in_ok-originals.ensures)

pub returns : goal.returns
returns g c =
    let effect = c.into_parts-effect.result.0 in
    let shadows = c.into_parts-effect.result.1 in
    let own = c.in-Some-pop.own in
    let split : c.in-Some.originals.items ≡ c.pop.new.self.items ++ own ∷ [] = c.in-Some-pop.ensures.items in
    rw (c.new.ensures, c.invert_all.ensures)
    (whole_conflict c.args.conflict c.in-Some.originals.items c.pop.new.self.items own (lists_of shadows.items) (prims_of effect.items) (sym c.side.ensures ∙ c.in-After.is) c.into_parts-effect.ensures.effect c.into_parts-effect.ensures.shadows (rw c.in-Some.is at c.in_ok-originals.ensures) split)
