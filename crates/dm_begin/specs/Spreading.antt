-- How primitives are spread over names.
use Rattle.std.specs.Prelude.{ℕ, ◌-◌, ◌*◌, ◌<◌, ◌≤◌, List, [], ◌∷◌, length, take, drop}
use Rattle.std.specs.FinMap as map
use Rattle.dm_info.specs.PatchInfo.{PatchInfo}
use Rattle.dm_tree.specs.Trees.{Tree, IsLawful, Deep}
use Rattle.dm_prim.specs.Primitives.{Prim}
use Rattle.dm_named.specs.Limits.{own}
use Rattle.dm_named.specs.Patches.{Patch}
use Rattle.dm_bundle.specs.Patches.{Distinct}
use Rattle.dm_repo.specs.declared.policy.Policy.{Policy}
use Rattle.dm_repo.specs.Weighing.{IsMergeOf}
use Rattle.dm_begin.specs.Alike.{all_of}
use Rattle.dm_begin.specs.Beginnings.{IsBeginning, most_prims}
use Rattle.dm_begin.specs.Making.{tree_prims}

-- how many primitives the first of the patches has: what doesn't fit into so many later ones
abbrev pub first_count : ℕ → ℕ → ℕ
first_count count later = count - later * most_prims

-- a patch for each name, the first of which depends on these
abbrev pub spread : List PatchInfo → List PatchInfo → List Prim → List Patch
spread deps [] ps = []
spread deps (i ∷ is) ps =
    record { info = i; deps = deps; prims = take (first_count (length ps) (length is)) ps } ∷
    spread (i ∷ []) is (drop (first_count (length ps) (length is)) ps)

-- the primitives of a tree that is lawful and not too deep, spread over distinct names, are a beginning of these names and the tree, if there are
-- no more names than patches may be, and no more primitives than fit
abbrev pub SpreadIsBeginning : Type 0
SpreadIsBeginning = (t : Tree) (names : List PatchInfo) → IsLawful (map.get t) → (Deep (map.get t) → ⊥) → Distinct names →
    length names ≤ own.patches → length (tree_prims t) ≤ length names * most_prims → IsBeginning names t (spread [] names (tree_prims t))

-- an empty repository takes the bundle of a beginning of some names as it is, under either policy
abbrev pub BeginningIsTaken : Type 0
BeginningIsTaken = (names : List PatchInfo) (t : Tree) (patches : List Patch) (policy : Policy) → 0 < length names → IsBeginning names t patches →
    IsMergeOf [] (all_of patches) policy patches 0
