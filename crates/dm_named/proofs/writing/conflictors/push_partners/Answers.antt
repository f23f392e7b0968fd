use Rattle.std.proofs.Common.{◌≡◌, ◌++◌, ◌∷◌, [], List, ℕ, length, sym, refl, ap, ◌∙◌, nat_eq, false, true, arith}
use Rattle.std.proofs.lemmas.Bool.{eqb-true}
use Rattle.std.specs.Prelude.{codes}
use Rattle.std.specs.List.{AllByRecursion, flat_map}
use Rattle.std.proofs.lemmas.List.{append-nil}
use Rattle.dm_prim.specs.Commuting.{IsValidPrim}
use Rattle.dm_named.specs.Kinds.{HasBytes}
use Rattle.dm_named.specs.Conflictors.{Original, EachOfOriginal}
use Rattle.dm_named.specs.CanonicalConflictors.{original_text, partners_text}
use Rattle.dm_named.proofs.NamedLemmas.{three_more}
use Rattle.dm_named.proofs.writing.conflictors.push_partners.Goals as goal

braced : (os : List Original) → nat_eq (length os) 0 ≡ false → partners_text os ≡ codes "{{\n" ++ (flat_map original_text os ++ codes "}} ")
braced [] some = cc
braced (o ∷ os) some = refl

nothing : (os : List Original) → nat_eq (length os) 0 ≡ true → partners_text os ≡ []
nothing [] none = refl
nothing (o ∷ os) none = absurd (omega (arith, eqb-true _ 0 none))

all_of_none : (P : Original → Type 0) (os : List Original) → nat_eq (length os) 0 ≡ true → AllByRecursion P os
all_of_none P [] none = tt
all_of_none P (o ∷ os) none = absurd (omega (arith, eqb-true _ 0 none))

pub returns-then-is_empty-clause-text : goal.returns-then-is_empty-clause-text
returns-then-is_empty-clause-text g c =
    let out : List ℕ = c.args.out.now.items in
    sym (append-nil out) ∙ ap (λ t. out ++ t) (sym (nothing c.args.partners.now (sym c.is_empty.ensures ∙ c.if-is_empty.true)))

pub returns-then-is_empty-clause-valid : goal.returns-then-is_empty-clause-valid
returns-then-is_empty-clause-valid g c = all_of_none (EachOfOriginal IsValidPrim) c.args.partners.now (sym c.is_empty.ensures ∙ c.if-is_empty.true)

pub returns-then-is_empty-clause-bytes : goal.returns-then-is_empty-clause-bytes
returns-then-is_empty-clause-bytes g c = all_of_none (EachOfOriginal HasBytes) c.args.partners.now (sym c.is_empty.ensures ∙ c.if-is_empty.true)

pub returns-clause-text : goal.returns-clause-text
returns-clause-text g c =
    let os : List Original = c.args.partners.now in
    rw (braced os (sym c.is_empty.ensures ∙ c.if-is_empty.false))
    (three_more c.args.out.now.items (codes "{{\n") (flat_map original_text os) (codes "}} ") c.extend_from_slice.new.self.items c.push_originals.new.out.items c.extend_from_slice-2.new.self.items c.in_ok-extend_from_slice.ensures.items c.in_ok-push_originals.ensures.text c.in_ok-extend_from_slice-2.ensures.items)
