-- Reading fewer kinds of primitives only chooses among the patches that are read.
use Rattle.std.proofs.Common.{ℕ, List, [], ◌∷◌, inl, inr}
use Rattle.std.specs.Prelude.{◌↔◌}
use Rattle.dm_prim.specs.Primitives.{Prim}
use Rattle.dm_named.specs.Kinds.{AreOf}
use Rattle.dm_named.specs.Many.{Many}
use Rattle.dm_named.specs.Patches.{NextPrim, Body, Patch, PatchTextIn}
use Rattle.dm_named.specs.declared.limits.Kinds.{Kinds}
use Rattle.dm_named.specs.declared.limits.Kinds.TheVariants as these

pub prims_in_all : (kinds : Kinds) (text : List ℕ) (ps : List Prim) (rest : List ℕ) → Many (NextPrim kinds) text ps rest → Many (NextPrim these.All) text ps rest
prims_in_all kinds text [] rest r = r
prims_in_all kinds text (p ∷ ps) rest r = let first = r.1 in (r.0, record { read = first.read; kind = tt }, prims_in_all kinds r.0 ps rest r.2)

prims_are_of : (kinds : Kinds) (text : List ℕ) (ps : List Prim) (rest : List ℕ) → Many (NextPrim kinds) text ps rest → AreOf kinds ps
prims_are_of kinds text [] rest r = tt
prims_are_of kinds text (p ∷ ps) rest r = let first = r.1 in (first.kind, prims_are_of kinds r.0 ps rest r.2)

prims_chosen : (kinds : Kinds) (text : List ℕ) (ps : List Prim) (rest : List ℕ) → Many (NextPrim these.All) text ps rest → AreOf kinds ps → Many (NextPrim kinds) text ps rest
prims_chosen kinds text [] rest r of_kinds = r
prims_chosen kinds text (p ∷ ps) rest r of_kinds = let first = r.1 in (r.0, record { read = first.read; kind = of_kinds.0 }, prims_chosen kinds r.0 ps rest r.2 of_kinds.1)

body_in_all : (kinds : Kinds) (text : List ℕ) (ps : List Prim) (rest : List ℕ) → Body kinds text ps rest → Body these.All text ps rest × AreOf kinds ps
body_in_all kinds text ps rest b =
    elim b [
      | inl x ↦ (inl (record { inside = x.inside; mid = x.mid; opens = x.opens; read = prims_in_all kinds x.inside ps x.mid x.read; closes = x.closes }), prims_are_of kinds x.inside ps x.mid x.read)
      | inr x ↦ (inr (record { bare = x.bare; read = prims_in_all kinds text ps rest x.read; ends = x.ends }), prims_are_of kinds text ps rest x.read)
    ]

body_chosen : (kinds : Kinds) (text : List ℕ) (ps : List Prim) (rest : List ℕ) → Body these.All text ps rest → AreOf kinds ps → Body kinds text ps rest
body_chosen kinds text ps rest b of_kinds =
    elim b [
      | inl x ↦ inl (record { inside = x.inside; mid = x.mid; opens = x.opens; read = prims_chosen kinds x.inside ps x.mid x.read of_kinds; closes = x.closes })
      | inr x ↦ inr (record { bare = x.bare; read = prims_chosen kinds text ps rest x.read of_kinds; ends = x.ends })
    ]

pub patch_chosen : (kinds : Kinds) (text : List ℕ) (p : Patch) (r : List ℕ) → PatchTextIn kinds text p r ↔ (PatchTextIn these.All text p r × AreOf kinds p.prims)
patch_chosen kinds text p r = (
  λ t. let b = body_in_all kinds t.body p.prims r t.prims in (record { after = t.after; body = t.body; info = t.info; deps = t.deps; prims = b.0 }, b.1),
  λ x. let t = x.0 in record { after = t.after; body = t.body; info = t.info; deps = t.deps; prims = body_chosen kinds t.body p.prims r t.prims x.1 },
)
