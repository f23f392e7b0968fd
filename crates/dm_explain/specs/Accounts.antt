-- Which patches a verdict is about: those that stand at its places.
use Rattle.std.specs.Prelude.{◌≡◌, ◌≢◌, ◌⊎◌, ◌↔◌, ℕ, ◌-◌, ◌<◌, ◌≤◌, List, length, slice_get, Option, Some, None, Err, IsTrue, MatchOption}
use Rattle.std.specs.declared.cmp.Ordering.TheVariants.{Less}
use Rattle.std.specs.FinMap as map
use Rattle.dm_info.specs.PatchInfo.{PatchInfo}
use Rattle.dm_tree.specs.Changes.{RenameAnswers}
use Rattle.dm_tree.specs.declared.fault.TreeFault.TheVariants.{TooDeep, TooLarge}
use Rattle.dm_tree.specs.Limits.{most_names}
use Rattle.dm_tree.specs.Paths.{Path, forward}
use Rattle.dm_tree.specs.Trees.{path_cmp}
use Rattle.dm_prim.specs.Prims.{prim_of}
use Rattle.dm_prim.specs.Applying.{ReplaceAnswers}
use Rattle.dm_prim.specs.Primitives.{At, Move, Replace}
use Rattle.dm_named.specs.Patches.{Patch}
use Rattle.dm_bundle.specs.Patches.{infos_of}
use Rattle.dm_bundle.specs.Bundles.{Contents}
use Rattle.dm_repo.specs.Repositories.{Holds}
use Rattle.dm_repo.specs.declared.refusal.Refusal.{Refusal}
use Rattle.dm_repo.specs.declared.refusal.Refusal.TheVariants as refusals
use Rattle.dm_repo.specs.declared.misfit.Misfit.{Misfit}
use Rattle.dm_repo.specs.declared.clash.Clash.{Clash}
use Rattle.dm_repo.specs.Clashes.{IsClash}
use Rattle.dm_repo.specs.declared.overflow.Overflow.{Overflow}
use Rattle.dm_repo.specs.declared.overflow.Overflow.TheVariants.{Front, Merged}
use Rattle.dm_repo.specs.declared.policy.Policy.{Policy}
use Rattle.dm_repo.specs.Misfits.{IsMisfit}
use Rattle.dm_repo.specs.Overflows.{IsOverflow, MergesTooMany}
use Rattle.dm_repo.specs.Weighing.{RefusesBundle}
use Rattle.dm_scratch.specs.declared.verdict.Verdict.{Verdict}
use Rattle.dm_scratch.specs.declared.verdict.Verdict.TheVariants as verdicts
use Rattle.dm_explain.specs.declared.account.Clashing.{Clashing}
use Rattle.dm_explain.specs.declared.account.Account.{Account}
use Rattle.dm_explain.specs.declared.depth.Depth.{Depth}
use Rattle.dm_explain.specs.declared.account.Account.TheVariants.{Nobody, Full, MissingContext, MissingDependency, ContextDepends, HeldDepends, DoesNotFit, Conflicts, Sorted}
use Rattle.dm_explain.specs.Fates.{AreChosen, AreFates, lent}

-- the name of the held patch at a place, if one stands there
abbrev pub held_at : List Patch → ℕ → Option PatchInfo
held_at repo h = slice_get (infos_of repo) h

-- the name of the new patch at a place, if one stands there
abbrev pub new_at : Contents → ℕ → Option PatchInfo
new_at b n = slice_get (infos_of b.patches) n

-- the new patch at place n has this name, and names this dependency at place d of its list
pub record NamesAt (b : Contents) (n d : ℕ) (name dependency : PatchInfo) : Type 0 where
  pub patch : Patch
  pub patch_at : slice_get b.patches n ≡ Some patch
  pub is_name : name ≡ patch.info
  pub dependency_at : slice_get patch.deps d ≡ Some dependency

-- no new patch at place n names a dependency at place d of its list
abbrev pub NamesNone : Contents → ℕ → ℕ → Type 0
NamesNone b n d = (name : PatchInfo) (dependency : PatchInfo) → NamesAt b n d name dependency → ⊥

-- where the new patch of place n doesn't apply
abbrev pub IsMisfitAt : {Z : Type 0} → List Patch → Contents → ℕ → Misfit Z → Type 0
IsMisfitAt repo b n misfit = IsMisfit repo b misfit × (misfit.place ≡ n)

-- these two primitives are what stands at the places of the clash, in the new patch of place n and in the held patch of place h
pub record AreClashing (repo : List Patch) (b : Contents) (n h : ℕ) (pair : Clashing) : Type 0 where
  pub clash : Clash
  pub is_clash : IsClash repo b clash
  pub is_new : clash.place ≡ n
  pub is_held : clash.held ≡ h
  pub new : Patch
  pub new_patch_at : slice_get b.patches n ≡ Some new
  pub new_prim_at : slice_get new.prims clash.prim ≡ Some (prim_of pair.new.now)
  pub held : Patch
  pub held_patch_at : slice_get repo h ≡ Some held
  pub held_prim_at : slice_get held.prims clash.held_prim ≡ Some (prim_of pair.held.now)

-- so many new patches aren't held
abbrev pub AreMissing : List Patch → Contents → ℕ → Type 0
AreMissing repo b count = (names : List PatchInfo) × AreChosen (λ i. Holds repo i → ⊥) (infos_of b.patches) names × (count ≡ length names)

-- the name of the patch that goes past a limit: a held one of the front, or a new one that was merged
abbrev pub overflowing : {Z : Type 0} → List Patch → Contents → Overflow Z → Option PatchInfo
overflowing repo b (Front m) = held_at repo m.place
overflowing repo b (Merged m) = new_at b m.place

-- the patch that goes past a limit, its primitive, and the tree that this was applied to
abbrev pub misfit_of : {Z : Type 0} → Overflow Z → Misfit Z
misfit_of (Front m) = m
misfit_of (Merged m) = m

-- the primitive that is told is a move, which the tree refuses since a path would get too many names
abbrev pub IsMoveTooDeep : {Z : Type 0} → Misfit Z → Type 0
IsMoveTooDeep m = (from : Path) × (to : Path) × (slice_get m.patch.prims m.prim ≡ Some (Move from to)) × RenameAnswers {T = Unit {0}} (map.get m.tree) from to (Err TooDeep)

-- the primitive that is told is a replace in the file at this path, which the tree refuses since the file is too large, before or after
abbrev pub IsReplaceTooLarge : {Z : Type 0} → Misfit Z → Path → Type 0
IsReplaceTooLarge m path = (set : List ℕ) × (old : List ℕ) × (new : List ℕ) ×
    (slice_get m.patch.prims m.prim ≡ Some (At path (Replace set old new))) × ReplaceAnswers {T = Unit {0}} (map.get m.tree) path set old new (Err TooLarge)

-- the primitive that is told goes past a limit, which its fault says: a move makes a path too deep, or the file of a replace is too large
abbrev pub IsPast : {Z : Type 0} → Misfit Z → Type 0
IsPast m = ((m.fault ≡ TooDeep) × IsMoveTooDeep m) ⊎ ((m.fault ≡ TooLarge) × ((path : Path) × IsReplaceTooLarge m path))

-- the primitive that is told is a move, and this is the first path of the tree that gets too many names by it
pub record IsMovedTooDeep {Z : Type 0} (m : Misfit Z) (path : Path) : Type 0 where
  pub from : Path
  pub to : Path
  pub is_move : slice_get m.patch.prims m.prim ≡ Some (Move from to)
  pub is_there : map.get m.tree path ≢ None
  pub is_too_deep : most_names < length (forward from to path)
  pub is_first : (q : Path) → map.get m.tree q ≢ None → path_cmp q path ≡ Less → length (forward from to q) ≤ most_names

-- it does so at this path: a move makes the path too deep, or it is the file of a replace
abbrev pub IsPastAt : {Z : Type 0} → Misfit Z → Path → Type 0
IsPastAt m path = ((m.fault ≡ TooDeep) × IsMovedTooDeep m path) ⊎ ((m.fault ≡ TooLarge) × IsReplaceTooLarge m path)

-- where a patch would go past a limit: the patch, its name, and the path that a move would make too deep, or the file of a replace
pub record IsDepth (repo : List Patch) (b : Contents) (policy : Policy) (depth : Depth) : Type 0 where
  pub told : IsOverflow repo b policy depth.overflow
  pub named : overflowing repo b depth.overflow ≡ Some depth.name.now
  pub past : IsPastAt (misfit_of depth.overflow) depth.path

-- whom a refusal of a bundle is about; nobody is only where no patch stands at a place of it, or it has no place. A misfit, or the
-- primitives of a clash, are missing only where weighing the bundle doesn't refuse it so; where a patch goes past a limit, only where none does, or
-- too many patches would be merged
abbrev pub IsAccountOfRefusal : List Patch → Contents → Policy → Refusal → Account → Type 0
IsAccountOfRefusal repo b policy (refusals.MissingContext c) (MissingContext missing) = AreChosen (λ i. Holds repo i → ⊥) b.context (lent missing.items)
IsAccountOfRefusal repo b policy (refusals.MissingDependency n d) (MissingDependency name dependency held) =
    NamesAt b n d name.now dependency.now × (IsTrue held ↔ Holds repo dependency.now)
IsAccountOfRefusal repo b policy (refusals.MissingDependency n d) Nobody = NamesNone b n d
IsAccountOfRefusal repo b policy (refusals.ContextDepends h r) (ContextDepends name needed) = (held_at repo h ≡ Some name.now) × (held_at repo r ≡ Some needed.now)
IsAccountOfRefusal repo b policy (refusals.ContextDepends h r) Nobody = (held_at repo h ≡ None) ⊎ (held_at repo r ≡ None)
IsAccountOfRefusal repo b policy (refusals.HeldDepends h n) (HeldDepends name needed) = (new_at b h ≡ Some name.now) × (new_at b n ≡ Some needed.now)
IsAccountOfRefusal repo b policy (refusals.HeldDepends h n) Nobody = (new_at b h ≡ None) ⊎ (new_at b n ≡ None)
IsAccountOfRefusal repo b policy (refusals.DoesNotFit n) (DoesNotFit name misfit) =
    (new_at b n ≡ Some name.now) × MatchOption misfit (RefusesBundle repo b policy (refusals.DoesNotFit n) → ⊥) (IsMisfitAt repo b n)
IsAccountOfRefusal repo b policy (refusals.DoesNotFit n) Nobody = new_at b n ≡ None
IsAccountOfRefusal repo b policy (refusals.Conflicts n h) (Conflicts name held pair) =
    (new_at b n ≡ Some name.now) × (held_at repo h ≡ Some held.now) ×
    MatchOption pair (RefusesBundle repo b policy (refusals.Conflicts n h) → ⊥) (AreClashing repo b n h)
IsAccountOfRefusal repo b policy (refusals.Conflicts n h) Nobody = (new_at b n ≡ None) ⊎ (held_at repo h ≡ None)
IsAccountOfRefusal repo b policy refusals.Full (Full held more depth) =
    (held ≡ length repo) × AreMissing repo b more ×
    MatchOption depth (RefusesBundle repo b policy refusals.Full → MergesTooMany repo b policy) (IsDepth repo b policy)
IsAccountOfRefusal repo b policy refusals.NoMemory Nobody = Unit {0}
IsAccountOfRefusal repo b policy refusal account = ⊥

-- what became of each new patch, where the last patches of the repository, so many, were taken
abbrev pub IsSorted : List Patch → ℕ → Contents → Account → Type 0
IsSorted repo count b (Sorted fates) = AreFates repo (length repo - count) b fates
IsSorted repo count b account = ⊥

-- whom a verdict on a bundle is about, in the repository that taking it left
abbrev pub IsAccount : List Patch → Contents → Policy → Verdict → Account → Type 0
IsAccount repo b policy (verdicts.Taken count) account = IsSorted repo count b account
IsAccount repo b policy (verdicts.TakenSome count skipped) account = IsSorted repo count b account
IsAccount repo b policy verdicts.NothingNew account = IsSorted repo 0 b account
IsAccount repo b policy (verdicts.Malformed fault) account = account ≡ Nobody
IsAccount repo b policy (verdicts.Refused refusal) account = IsAccountOfRefusal repo b policy refusal account
