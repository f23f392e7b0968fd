use Rattle.std.proofs.Common.{◌≡◌, ◌++◌, ◌∷◌, [], List, length, map, sym, refl, ap, ◌∙◌, nat_eq, false, true, arith}
use Rattle.std.proofs.lemmas.Bool.{eqb-true}
use Rattle.std.specs.Prelude.{codes}
use Rattle.std.specs.List.{AllByRecursion, flat_map}
use Rattle.dm_prim.specs.Primitives.{Prim}
use Rattle.dm_prim.specs.Commuting.{IsValidPrim}
use Rattle.dm_prim.specs.Prims.{prim_of, prims_of}
use Rattle.dm_named.specs.Kinds.{HasBytes}
use Rattle.dm_named.specs.Canonical.{prim_text}
use Rattle.dm_named.specs.CanonicalConflictors.{undone_text}
use Rattle.dm_named.proofs.NamedLemmas.{three_more}
use Rattle.dm_named.proofs.writing.conflictors.push_undone.Goals as goal

bracketed : {X : Type 0} (f : X → Prim) (xs : List X) → nat_eq (length xs) 0 ≡ false → undone_text (map f xs) ≡ codes "[\n" ++ (flat_map prim_text (map f xs) ++ codes "]\n")
bracketed f [] some = cc
bracketed f (x ∷ xs) some = refl

nothing : {X : Type 0} (f : X → Prim) (xs : List X) → nat_eq (length xs) 0 ≡ true → undone_text (map f xs) ≡ codes "[]\n"
nothing f [] none = refl
nothing f (x ∷ xs) none = absurd (omega (arith, eqb-true _ 0 none))

all_of_none : {X : Type 0} (P : Prim → Type 0) (f : X → Prim) (xs : List X) → nat_eq (length xs) 0 ≡ true → AllByRecursion P (map f xs)
all_of_none P f [] none = tt
all_of_none P f (x ∷ xs) none = absurd (omega (arith, eqb-true _ 0 none))

pub returns-then-is_empty-clause-text : goal.returns-then-is_empty-clause-text
returns-then-is_empty-clause-text g c =
    c.in_ok-extend_from_slice.ensures.items ∙ ap (λ t. c.args.out.now.items ++ t) (sym (nothing prim_of c.args.prims.now (sym c.is_empty.ensures ∙ c.if-is_empty.true)))

pub returns-then-is_empty-clause-valid : goal.returns-then-is_empty-clause-valid
returns-then-is_empty-clause-valid g c = all_of_none IsValidPrim prim_of c.args.prims.now (sym c.is_empty.ensures ∙ c.if-is_empty.true)

pub returns-then-is_empty-clause-bytes : goal.returns-then-is_empty-clause-bytes
returns-then-is_empty-clause-bytes g c = all_of_none HasBytes prim_of c.args.prims.now (sym c.is_empty.ensures ∙ c.if-is_empty.true)

pub returns-clause-text : goal.returns-clause-text
returns-clause-text g c =
    let ps : List Prim = prims_of c.args.prims.now in
    rw (bracketed prim_of c.args.prims.now (sym c.is_empty.ensures ∙ c.if-is_empty.false))
    (three_more c.args.out.now.items (codes "[\n") (flat_map prim_text ps) (codes "]\n") c.extend_from_slice-2.new.self.items c.push_prims.new.out.items c.extend_from_slice-3.new.self.items c.in_ok-extend_from_slice-2.ensures.items c.in_ok-push_prims.ensures.text c.in_ok-extend_from_slice-3.ensures.items)
