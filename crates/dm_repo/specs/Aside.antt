-- Patches that have nothing to do with what is tried and merged: they stand aside, and are neither copied nor undone.
use Rattle.std.specs.Prelude.{◌≡◌, ◌⊎◌, List, [], ◌∷◌}
use Rattle.std.specs.List.{All}
use Rattle.dm_tree.specs.Paths.{Path}
use Rattle.dm_prim.specs.Primitives.{Prim, At, Move, ChangePref}
use Rattle.dm_prim.specs.Table.{MovesOutside}
use Rattle.dm_prim.specs.Commuting.{IsValidPrim}
use Rattle.dm_prim.specs.Touch.{IsApartFrom}
use Rattle.dm_prim.specs.Parts.{NamesUnder}
use Rattle.dm_named.specs.Patches.{Patch}
use Rattle.dm_repo.specs.Squares.{Placed}

-- work at a path that neither is, nor is inside, nor contains one of these; or another value for a preference
abbrev pub IsAside : List Path → Prim → Type 0
IsAside ps (At f w) = IsApartFrom ps f
IsAside ps (Move a b) = ⊥
IsAside ps (ChangePref name old new) = Unit {0}

-- so is each primitive of the patch
pub record StandsAside (ps : List Path) (x : Patch) : Type 0 where
  pub valid : All IsValidPrim x.prims
  pub each : All (IsAside ps) x.prims

-- all that the patch names is at or under these paths, and each of its moves leads outside of what it moves
pub record StandsNear (ps : List Path) (x : Patch) : Type 0 where
  pub valid : All IsValidPrim x.prims
  pub names : All (NamesUnder ps) x.prims
  pub moves : All MovesOutside x.prims

-- the second list has the patches of the first but for some that stand aside
pub data LeavesAside (ps : List Path) : List Placed → List Placed → Type 0 where
  none : LeavesAside ps [] []
  near : {x : Placed} {all some : List Placed} → StandsNear ps x.1 → LeavesAside ps all some → LeavesAside ps (x ∷ all) (x ∷ some)
  aside : {x : Placed} {all some : List Placed} → StandsAside ps x.1 → LeavesAside ps all some → LeavesAside ps (x ∷ all) some

-- the rest is the whole, or the whole without patches that stand aside from paths under which the new ones name all
abbrev pub IsRestOf : List Placed → List Placed → List Placed → Type 0
IsRestOf full rest new = (rest ≡ full) ⊎ ((ps : List Path) × LeavesAside ps full rest × All (λ x. StandsNear ps x.1) new)
