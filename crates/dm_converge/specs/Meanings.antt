-- What the names of patches stand for, wherever the patches stand.
use Rattle.std.specs.Prelude.{◌≡◌, ◌≢◌, ◌↔◌, List, [], ◌∷◌, ◌++◌, Some, None}
use Rattle.std.specs.List.{Contains}
use Rattle.dm_info.specs.PatchInfo.{PatchInfo}
use Rattle.dm_prim.specs.InTurn.{InTurn}
use Rattle.dm_named.specs.Patches.{Patch}
use Rattle.dm_bundle.specs.Patches.{infos_of, Distinct}
use Rattle.dm_bundle.specs.Bundles.{Contents}
use Rattle.dm_repo.specs.Repositories.{Holds}
use Rattle.dm_repo.specs.CommonSets.{Closed}
use Rattle.dm_facts.specs.Nodes.{NodeMap, Folder}
use Rattle.dm_facts.specs.Facts.{Effect}
use Rattle.dm_facts.specs.Runs.{StepsAll, SharesNone, AllAddNew}

-- what each name stands for: what its patch names as dependencies, and the effects of its primitives, one after the other; and the root's identity
pub record Meaning (I : Type 0) : Type 0 where
  pub root : I
  pub deps : PatchInfo → List PatchInfo
  pub effects : PatchInfo → List (Effect I)

-- the patch leads from s to t, as m says of its name
pub record LeadsAs {I : Type 0} (m : Meaning I) (x : Patch) (s t : NodeMap I) : Type 0 where
  pub deps : x.deps ≡ m.deps x.info
  pub steps : StepsAll x.prims (m.effects x.info) s t

-- so do the patches, in turn
abbrev pub Runs : {I : Type 0} → Meaning I → List Patch → NodeMap I → NodeMap I → Type 0
Runs m xs s t = InTurn (LeadsAs m) xs s t

-- the root alone, with this identity
abbrev pub root_of : {I : Type 0} → I → NodeMap I
root_of r [] = Some (Folder r)
root_of r (n ∷ p) = None

-- the patches make t of the root alone, as m says of their names
abbrev pub Builds : {I : Type 0} → Meaning I → List Patch → NodeMap I → Type 0
Builds m xs t = Runs m xs (root_of m.root) t

-- each identity is introduced once
pub record MakesOnce {I : Type 0} (m : Meaning I) : Type 0 where
  -- what a name's effects introduce is not the root, and no two of them introduce the same
  pub within : (i : PatchInfo) → AllAddNew (m.effects i) (root_of m.root)
  -- nor do effects of two names
  pub between : (i j : PatchInfo) → i ≢ j → (e : Effect I) → Contains (m.effects i) e → SharesNone e (m.effects j)

-- the bundle is as m says: somewhere its patches lead on from what others built, as m says of all their names, and the others are just the
-- context, with what they name as dependencies by way of each other
pub record MeansSo {I : Type 0} (m : Meaning I) (b : Contents) : Type 0 where
  pub before : List Patch
  pub is_context : (i : PatchInfo) → Holds before i ↔ Closed before b.context i
  pub distinct : Distinct (infos_of (before ++ b.patches))
  pub tree : NodeMap I
  pub after : NodeMap I
  pub builds : Builds m before tree
  pub runs : Runs m b.patches tree after
