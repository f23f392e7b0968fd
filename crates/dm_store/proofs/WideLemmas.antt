-- A file for all kinds in the place of another one.
use Rattle.std.proofs.Common.{◌≡◌, ℕ, List, [], ◌∷◌, inl, inr, sym, subst}
use Rattle.dm_named.specs.Kinds.{AreOf}
use Rattle.dm_named.specs.declared.limits.Kinds.{Kinds}
use Rattle.dm_named.specs.declared.limits.Kinds.TheVariants.{All}
use Rattle.dm_named.specs.Patches.{Patch}
use Rattle.dm_prim.specs.Primitives.{Prim}
use Rattle.dm_bundle.specs.Patches.{AreAllOf}
use Rattle.dm_store.specs.Keeping.{IsOrKeeps, KeepsForEither, KeepsRepo, Kept}

prims_of_all : (ps : List Prim) → AreOf All ps
prims_of_all [] = tt
prims_of_all (p ∷ ps) = (tt, prims_of_all ps)

-- each primitive is one of all kinds
pub of_all : (patches : List Patch) → AreAllOf All patches
of_all [] = tt
of_all (x ∷ xs) = (prims_of_all x.prims, of_all xs)

-- what is the old file keeps what that kept
pub for_either : (kinds : Kinds) (old : List ℕ) (kept : Kept) → KeepsRepo kinds old kept → (c : List ℕ) → IsOrKeeps All old kept c → KeepsForEither kinds All kept c
for_either kinds old kept k c (inl e) = inl (subst (λ (f : List ℕ). KeepsRepo kinds f kept) (sym e) k)
for_either kinds old kept k c (inr now) = inr now
