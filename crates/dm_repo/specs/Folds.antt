-- The tree of a list of patches (that no path may have more than 32 names, and that a replace may find and leave no file of more than 1,048,576
-- bytes, are this project's limits).
use Rattle.std.specs.Prelude.{◌≡◌, List, [], ◌∷◌, ◌++◌, Some, None}
use Rattle.dm_tree.specs.Paths.{Name, Path}
use Rattle.dm_tree.specs.Trees.{Map, Dir, Deep}
use Rattle.dm_prim.specs.InTurn.{InTurn}
use Rattle.dm_prim.specs.Primitives.{Prim, Applies, LawfulMap, Leads, LeadsAll}
use Rattle.dm_prim.specs.Limits.{TurnsLarge, IsPastLimits}
use Rattle.dm_named.specs.Patches.{Patch}

-- the root alone
pub record IsRoot (t : LawfulMap) : Type 0 where
  pub root : t.map [] ≡ Some Dir
  pub alone : (n : Name) (p : Path) → t.map (n ∷ p) ≡ None

-- all primitives of a patch in turn lead from one tree to another
abbrev pub PatchLeads : Patch → LawfulMap → LawfulMap → Type 0
PatchLeads x s t = LeadsAll x.prims s t

-- the patches in turn lead from the root alone to t
pub record Fold (patches : List Patch) (t : LawfulMap) : Type 0 where
  pub start : LawfulMap
  pub is_root : IsRoot start
  pub runs : InTurn PatchLeads patches start t

-- a primitive leads from s to t, t has no path of more than 32 names, and it is no replace in a file that is too large
pub record LeadsShallowly (p : Prim) (s t : LawfulMap) : Type 0 where
  pub leads : Leads p s t
  pub shallow : Deep t.map → ⊥
  pub small : TurnsLarge p s.map t.map → ⊥

-- so does each primitive of a patch
abbrev pub PatchLeadsShallowly : Patch → LawfulMap → LawfulMap → Type 0
PatchLeadsShallowly x s t = InTurn LeadsShallowly x.prims s t

-- a primitive applies to s, and goes past a limit: what it makes has a path of more than 32 names, or it is a replace in a file that is too large
abbrev pub GoesPastLimits : Prim → LawfulMap → Type 0
GoesPastLimits p s = (t : Map) × Applies p s.map t × IsPastLimits p s.map t

-- a primitive leads nowhere shallowly from s: it doesn't apply, or goes past a limit where it does
abbrev pub IsStopped : Prim → LawfulMap → Type 0
IsStopped p s = (t : Map) → Applies p s.map t → IsPastLimits p s.map t

-- the primitives of a patch lead shallowly from s up to one, of which Q holds there
pub record PatchStops (Q : Prim → LawfulMap → Type 0) (x : Patch) (s : LawfulMap) : Type 0 where
  pub before : List Prim
  pub prim : Prim
  pub after : List Prim
  pub tree : LawfulMap
  pub at : x.prims ≡ before ++ prim ∷ after
  pub leads : InTurn LeadsShallowly before s tree
  pub stops : Q prim tree

-- the patches in turn lead from the root alone to t, and no primitive goes past a limit
pub record ShallowFold (patches : List Patch) (t : LawfulMap) : Type 0 where
  pub start : LawfulMap
  pub is_root : IsRoot start
  pub runs : InTurn PatchLeadsShallowly patches start t
