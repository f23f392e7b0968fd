-- Which primitives of a new patch and of a held one are the first two that can't pass each other.
use Rattle.std.specs.Prelude.{◌≡◌, ℕ, List, ◌∷◌, ◌++◌, length}
use Rattle.dm_prim.specs.Primitives.{Prim, inv, inv_all}
use Rattle.dm_prim.specs.Rectangles.{CellRow, Rectangle}
use Rattle.dm_prim.specs.Commuting.{Commutes, ListsCommute}
use Rattle.dm_named.specs.Patches.{Patch}
use Rattle.dm_bundle.specs.Bundles.{Contents}
use Rattle.dm_repo.specs.declared.clash.Clash.{Clash}
use Rattle.dm_repo.specs.Merging.{MergeRectangle, MergesPast}
use Rattle.dm_repo.specs.Squares.{Placed, PlacedMerges}
use Rattle.dm_repo.specs.Weighing.{Fits}

-- x passes the first of ys, and then has no cell with the next, which stands at this place
pub record RowStops {P : Type 0} (Cell : P → P → P → P → Type 0) (x : P) (ys : List P) (place : ℕ) : Type 0 where
  pub before : List P
  pub y : P
  pub after : List P
  pub before' : List P
  pub x1 : P
  pub at : ys ≡ before ++ y ∷ after
  pub is_place : place ≡ length before
  pub passed : CellRow Cell x before before' x1
  pub stuck : (y' x' : P) → Cell x1 y y' x' → ⊥

-- the last of xs, so many, pass all of ys, and the one before them is stopped at this place of what ys is then
pub record RectangleStops {P : Type 0} (Cell : P → P → P → P → Type 0) (xs ys : List P) (count place : ℕ) : Type 0 where
  pub before : List P
  pub x : P
  pub after : List P
  pub ys' : List P
  pub after' : List P
  pub at : xs ≡ before ++ x ∷ after
  pub is_count : count ≡ length after
  pub passed : Rectangle Cell after ys ys' after'
  pub stops : RowStops Cell x ys' place

-- r and n start at one state. The inverses of the first primitives of r pass all of n; that of the next one, which stands at the place `held`
-- in r, is stopped by what the one at the place `new` in n is then
pub record PrimsClash (r n : Patch) (held new : ℕ) : Type 0 where
  pub first : List Prim
  pub prim : Prim
  pub others : List Prim
  pub n' : List Prim
  pub first' : List Prim
  pub at : r.prims ≡ first ++ prim ∷ others
  pub is_place : held ≡ length first
  pub passed : ListsCommute (inv_all first) n.prims n' first'
  pub stops : RowStops Commutes (inv prim) n' new

-- n is merged with what stands before r, and then one of its primitives clashes with one of r
pub record ClashesPast (rest : List Placed) (n : Placed) (c : Clash) : Type 0 where
  pub near : List Placed
  pub r : Placed
  pub far : List Placed
  pub near' : List Placed
  pub n1 : Placed
  pub at : rest ≡ near ++ r ∷ far
  pub joined : MergesPast PlacedMerges near n n1 near'
  pub is_place : c.place ≡ n.0
  pub is_held : c.held ≡ r.0
  pub prims : PrimsClash r.1 n1.1 c.held_prim c.prim

-- all before n are merged, and n clashes with one of the rest
pub record Clashes (rest new : List Placed) (c : Clash) : Type 0 where
  pub before : List Placed
  pub n : Placed
  pub after : List Placed
  pub before' : List Placed
  pub rest1 : List Placed
  pub at : new ≡ before ++ n ∷ after
  pub so_far : MergeRectangle PlacedMerges rest before before' rest1
  pub clash : ClashesPast rest1 n c

-- the new patches fit, and these are the first two primitives that can't pass each other as they are merged with the rest of the repository
pub record IsClash (repo : List Patch) (b : Contents) (c : Clash) : Type 0 where
  pub rest : List Placed
  pub new : List Placed
  pub fits : Fits repo b rest new
  pub clash : Clashes rest new c
