-- Where all items are primitives, the text is that of a named patch.
use Rattle.std.proofs.Common.{◌≡◌, ℕ, List, [], ◌∷◌, ◌++◌, length, map, refl, ap, arith, inl, inr}
use Rattle.std.specs.Prelude.{◌↔◌, codes}
use Rattle.std.specs.List.{flat_map}
use Rattle.dm_info.specs.Spelling.{canonical}
use Rattle.dm_prim.specs.Primitives.{Prim}
use Rattle.dm_named.specs.Many.{Many}
use Rattle.dm_named.specs.Patches.{NextPrim, Body, Patch, PatchTextIn}
use Rattle.dm_named.specs.Canonical.{prim_text, deps_text, body_text, patch_text}
use Rattle.dm_named.specs.MergedPatches.{Plain, NextItem, BodyOfItems, MergedText, as_merged, body_size}
use Rattle.dm_named.specs.CanonicalMerged.{item_text, items_text, merged_text}
use Rattle.dm_named.specs.declared.limits.Kinds.{Kinds}

to_prims : (kinds : Kinds) (text : List ℕ) (ps : List Prim) (rest : List ℕ) → Many (NextItem kinds) text (map Plain ps) rest → Many (NextPrim kinds) text ps rest
to_prims kinds text [] rest r = r
to_prims kinds text (p ∷ ps) rest r = (r.0, record { read = r.1.0; kind = r.1.1 }, to_prims kinds r.0 ps rest r.2)

to_items : (kinds : Kinds) (text : List ℕ) (ps : List Prim) (rest : List ℕ) → Many (NextPrim kinds) text ps rest → Many (NextItem kinds) text (map Plain ps) rest
to_items kinds text [] rest r = r
to_items kinds text (p ∷ ps) rest r = let first = r.1 in (r.0, (first.read, first.kind), to_items kinds r.0 ps rest r.2)

to_body : (kinds : Kinds) (text : List ℕ) (ps : List Prim) (rest : List ℕ) → BodyOfItems kinds text (map Plain ps) rest → Body kinds text ps rest
to_body kinds text ps rest b =
    elim b [
      | inl x ↦ inl (record { inside = x.inside; mid = x.mid; opens = x.opens; read = to_prims kinds x.inside ps x.mid x.read; closes = x.closes })
      | inr x ↦ inr (record { bare = x.bare; read = to_prims kinds text ps rest x.read; ends = x.ends })
    ]

to_body_of_items : (kinds : Kinds) (text : List ℕ) (ps : List Prim) (rest : List ℕ) → Body kinds text ps rest → BodyOfItems kinds text (map Plain ps) rest
to_body_of_items kinds text ps rest b =
    elim b [
      | inl x ↦ inl (record { inside = x.inside; mid = x.mid; opens = x.opens; read = to_items kinds x.inside ps x.mid x.read; closes = x.closes })
      | inr x ↦ inr (record { bare = x.bare; read = to_items kinds text ps rest x.read; ends = x.ends })
    ]

pub plain_texts : (kinds : Kinds) (text : List ℕ) (p : Patch) (rest : List ℕ) → MergedText kinds text (as_merged p) rest ↔ PatchTextIn kinds text p rest
plain_texts kinds text p rest = (
  λ t. record { after = t.after; body = t.start; info = t.info; deps = t.deps; prims = to_body kinds t.start p.prims rest t.body },
  λ t. record { after = t.after; start = t.body; info = t.info; deps = t.deps; body = to_body_of_items kinds t.body p.prims rest t.prims },
)

-- ---- canonical texts

same_texts : (ps : List Prim) → flat_map item_text (map Plain ps) ≡ flat_map prim_text ps
same_texts [] = refl
same_texts (p ∷ ps) = ap (λ (t : List ℕ). prim_text p ++ t) (same_texts ps)

same_body : (ps : List Prim) → items_text (map Plain ps) ≡ body_text ps
same_body [] = refl
same_body (p ∷ []) = refl
same_body (p ∷ q ∷ ps) = ap (λ (t : List ℕ). codes "{\n" ++ (t ++ codes "}\n")) (same_texts (p ∷ q ∷ ps))

same_size : (ps : List Prim) → body_size (map Plain ps) ≡ length ps
same_size [] = refl
same_size (p ∷ ps) = omega (arith, same_size ps)

pub plain_canonical : (p : Patch) → (merged_text (as_merged p) ≡ patch_text p) × (body_size (as_merged p).body ≡ length p.prims)
plain_canonical p = (ap (λ (t : List ℕ). canonical p.info ++ (deps_text p.deps ++ t)) (same_body p.prims), same_size p.prims)
