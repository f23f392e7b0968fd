-- Which paths a list of primitives touches, and when two lists touch nothing in common.
use Rattle.std.specs.Prelude.{◌↔◌, Bool, IsTrue, List, [], ◌∷◌, ◌++◌, flat_map}
use Rattle.std.specs.List.{All, Contains}
use Rattle.dm_tree.specs.Paths.{Path, Apart}
use Rattle.dm_prim.specs.Primitives.{Prim, At, Move, ChangePref, inv_all}
use Rattle.dm_prim.specs.Table.{MovesOutside}
use Rattle.dm_prim.specs.Commuting.{IsValidPrim, ListsCommute}
use Rattle.dm_prim.specs.Prims.{MovesNothing}

-- the paths that a primitive names
abbrev pub paths_of : Prim → List Path
paths_of (At f w) = f ∷ []
paths_of (Move a b) = a ∷ b ∷ []
paths_of (ChangePref name old new) = []

-- a path that a primitive of the list names
abbrev pub IsTouched : List Prim → Path → Type 0
IsTouched ps f = Contains (flat_map paths_of ps) f

-- what is known of a list of primitives once it was gone through
pub record TouchedPaths : Type 0 where
  -- the paths that it names, each at least once
  pub paths : List Path
  -- whether each of its moves leads outside of what it moves
  pub moves_outside : Bool
  -- whether none of it is a move
  pub moves_nothing : Bool

-- that is known of this list, whose primitives are valid
pub record Touches (ps : List Prim) (t : TouchedPaths) : Type 0 where
  pub valid : All IsValidPrim ps
  pub paths : (f : Path) → Contains t.paths f ↔ IsTouched ps f
  pub moves : IsTrue t.moves_outside ↔ All MovesOutside ps
  pub works : IsTrue t.moves_nothing ↔ All MovesNothing ps

-- the path neither is, nor is inside, nor contains one of these
pub record IsApartFrom (others : List Path) (f : Path) : Type 0 where
  pub each : All (Apart f) others

-- no path of one is, is inside or contains a path of the other, and each move leads outside of what it moves
abbrev pub AreApart : TouchedPaths → TouchedPaths → Type 0
AreApart t u = IsTrue t.moves_outside × IsTrue u.moves_outside × All (IsApartFrom u.paths) t.paths

-- lists that touch this commute, and stay as they are
abbrev pub PassUnchanged : TouchedPaths → TouchedPaths → Type 0
PassUnchanged t u = (xs ys : List Prim) → Touches xs t → Touches ys u → ListsCommute xs ys ys xs

-- none of either is a move
abbrev pub MoveNothing : TouchedPaths → TouchedPaths → Type 0
MoveNothing t u = IsTrue t.moves_nothing × IsTrue u.moves_nothing

-- where lists that touch this commute, each touches afterwards what it did before
abbrev pub StayTouched : TouchedPaths → TouchedPaths → Type 0
StayTouched t u = (xs ys ys' xs' : List Prim) → Touches xs t → Touches ys u → ListsCommute xs ys ys' xs' → Touches xs' t × Touches ys' u

-- the list that touched the one touches the other with this primitive more
abbrev pub TouchesMore : Prim → TouchedPaths → TouchedPaths → Type 0
TouchesMore p t u = (ps : List Prim) → Touches ps t → Touches (ps ++ p ∷ []) u

-- all that the primitive names is among these paths
pub record NamesAmong (paths : List Path) (p : Prim) : Type 0 where
  pub each : All (Contains paths) (paths_of p)

-- a primitive of the list names the path
pub record IsNamedAmong (ps : List Prim) (f : Path) : Type 0 where
  pub named : IsTouched ps f

-- what a list touches its inverse touches
abbrev pub InversesTouchTheSame : Type 0
InversesTouchTheSame = (ps : List Prim) (t : TouchedPaths) → Touches ps t → Touches (inv_all ps) t
