-- Patches with their places, and the squares that they form (Darcs.Patch.Named; a square of a merge turns one of its sides round).
use Rattle.std.specs.Prelude.{◌≡◌, ℕ, ◌+◌, List, [], ◌∷◌, map}
use Rattle.dm_prim.specs.Primitives.{inv_all}
use Rattle.dm_prim.specs.Commuting.{ListsCommute}
use Rattle.dm_named.specs.Patches.{Patch}
use Rattle.dm_named.specs.Commuting.{Stays, NamedCommutes}

-- a place in a repository or in a bundle, and the patch that stands there
abbrev pub Placed : Type 0
Placed = ℕ × Patch

abbrev pub placed_from : ℕ → List Patch → List Placed
placed_from n [] = []
placed_from n (x ∷ xs) = (n, x) ∷ placed_from (n + 1) xs

-- each patch of a list with its place
abbrev pub placed : List Patch → List Placed
placed xs = placed_from 0 xs

abbrev pub patches : List Placed → List Patch
patches xs = map (λ x. x.1) xs

-- r and n start at one state: n' is n after r, and r' is r after n, since the inverse of r and then n change places;
-- patch infos and dependencies are kept
pub record Merges (r n n' r' : Patch) : Type 0 where
  pub r_stays : Stays r r'
  pub n_stays : Stays n n'
  pub prims : ListsCommute (inv_all r.prims) n.prims n'.prims (inv_all r'.prims)

-- a square of a split: x then y are y' then x', each with its place
pub record PlacedCommutes (x y y' x' : Placed) : Type 0 where
  pub x_place : x'.0 ≡ x.0
  pub y_place : y'.0 ≡ y.0
  pub commutes : NamedCommutes x.1 y.1 y'.1 x'.1

-- a square of a merge: n' is n after r, and r' is r after n, each with its place
pub record PlacedMerges (r n n' r' : Placed) : Type 0 where
  pub r_place : r'.0 ≡ r.0
  pub n_place : n'.0 ≡ n.0
  pub merges : Merges r.1 n.1 n'.1 r'.1

-- the patch with the inverse of its primitives
abbrev pub undone : Placed → Placed
undone x = (x.0, record { info = x.1.info; deps = x.1.deps; prims = inv_all x.1.prims })
