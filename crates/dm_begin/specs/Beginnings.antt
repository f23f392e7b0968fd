-- What a mirror begins with at a tag: patches of the names that the tag covers, which make the tag's tree.
use Rattle.std.specs.Prelude.{◌≡◌, ◌≢◌, ◌⊎◌, ℕ, List, [], ◌∷◌, ◌++◌, length}
use Rattle.std.specs.List.{AllByRecursion}
use Rattle.dm_info.specs.PatchInfo.{PatchInfo}
use Rattle.dm_tree.specs.Trees.{Tree}
use Rattle.dm_prim.specs.Primitives.{Prim}
use Rattle.dm_named.specs.Limits.{own, standard}
use Rattle.dm_named.specs.Patches.{Patch}
use Rattle.dm_named.specs.declared.limits.Kinds.TheVariants as these
use Rattle.dm_bundle.specs.Patches.{infos_of, AreFewWithin, AreAllOf}
use Rattle.dm_repo.specs.Repositories.{KeepsTree}
use Rattle.dm_begin.specs.Making.{tree_prims}

-- the most primitives of a patch of one's own repository
abbrev pub most_prims : ℕ
most_prims = own.prims

-- each patch names the one before it as its only dependency; the first names these
abbrev pub IsChain : List PatchInfo → List Patch → Type 0
IsChain deps [] = Unit {0}
IsChain deps (x ∷ xs) = (x.deps ≡ deps) × IsChain (x.info ∷ []) xs

-- the patch has as many primitives as one may have, or as one of somebody else may have: mirrors of before were filled so far
abbrev pub IsFilled : Patch → Type 0
IsFilled x = (length x.prims ≡ most_prims) ⊎ (length x.prims ≡ standard.prims)

-- after a patch with a primitive all are filled: the primitives stand in the last patch, or in the last few
abbrev pub IsPacked : List Patch → Type 0
IsPacked [] = Unit {0}
IsPacked (x ∷ xs) = ((x.prims ≢ []) → AllByRecursion IsFilled xs) × IsPacked xs

-- the primitives of all patches in turn
abbrev pub prims_in : List Patch → List Prim
prims_in [] = []
prims_in (x ∷ xs) = x.prims ++ prims_in xs

-- the patches have these names in this order, each rests on the one before it, and they are a repository that keeps the tree; their primitives are
-- those that make the tree, as far at the end as they may stand; and the text of such a repository may be read
pub record IsBeginning (names : List PatchInfo) (tree : Tree) (patches : List Patch) : Type 0 where
  pub named : infos_of patches ≡ names
  pub chained : IsChain [] patches
  pub keeps : KeepsTree patches tree
  pub makes : prims_in patches ≡ tree_prims tree
  pub packed : IsPacked patches
  pub few : AreFewWithin own patches
  pub of_six : AreAllOf these.Six patches
