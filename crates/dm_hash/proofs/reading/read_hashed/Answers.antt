use Rattle.std.proofs.Common.{◌≤◌, ◌-◌, drop, length, arith, length-drop}
use Rattle.std.specs.Prelude.{Ok, IsErrOf}
use Rattle.std.proofs.lemmas.List.{take_all}
use Rattle.dm_hash.proofs.reading.read_hashed.Goals as goal

no_fault : {T E : Type 0} (x : T) (e : E) → IsErrOf {T = T} {E = E} (Ok x) e → ⊥
no_fault x e h = cc

pub returns-in-Ok-trailer_of-clause-trailer : goal.returns-in-Ok-trailer_of-clause-trailer
returns-in-Ok-trailer_of-clause-trailer g c =
    let text = c.args.text.now in
    let at = c.in-Ok.at in
    let within : length (drop at text) ≤ length text - at = omega (arith, length-drop at text) in
    rw (c.new_patches.ensures.value, take_all (length text - at) (drop at text) within) at c.in-Ok-trailer_of.ensures

pub returns-in-Ok-trailer_of-clause-too_large : goal.returns-in-Ok-trailer_of-clause-too_large
returns-in-Ok-trailer_of-clause-too_large g c = λ large. absurd (no_fault _ _ (c.in-Ok.ensures.too_large large))

pub returns-in-Ok-trailer_of-clause-no_heading : goal.returns-in-Ok-trailer_of-clause-no_heading
returns-in-Ok-trailer_of-clause-no_heading g c = λ fits none. absurd (no_fault _ _ (c.in-Ok.ensures.no_heading fits none))
