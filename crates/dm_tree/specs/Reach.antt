-- Parts of a map: what some paths reach.
use Rattle.std.specs.Prelude.{◌≡◌, ◌≢◌, ◌⊎◌, ℕ, ◌<◌, List, [], ◌∷◌, ◌++◌, length, Some, None, IsSome}
use Rattle.std.specs.List.{AllPairs, Contains}
use Rattle.dm_tree.specs.Paths.{Path, Under, Apart}
use Rattle.dm_tree.specs.Trees.{Map, Dir, HasParent}

-- the path is the root, or is above, at or under one of these
pub data IsReached (ps : List Path) (q : Path) : Type 0 where
  root : q ≡ [] → IsReached ps q
  above : (f : Path) → Contains ps f → Under f q → IsReached ps q
  under : (f : Path) → Contains ps f → Under q f → IsReached ps q

-- u has what s has where these paths reach, and elsewhere nothing
pub record IsPart (ps : List Path) (s u : Map) : Type 0 where
  pub within : (q : Path) → IsReached ps q → u q ≡ s q
  pub outside : (q : Path) → (IsReached ps q → ⊥) → u q ≡ None

-- t has what u has where these paths reach, and elsewhere what s has
pub record Splices (ps : List Path) (s u t : Map) : Type 0 where
  pub within : (q : Path) → IsReached ps q → t q ≡ u q
  pub outside : (q : Path) → (IsReached ps q → ⊥) → t q ≡ s q

-- all that u has s has too
pub record IsWithin (s u : Map) : Type 0 where
  pub same : (q : Path) → u q ≢ None → u q ≡ s q

-- m' has a directory at p where m has nothing, and is m elsewhere
pub record FillsIn (p : Path) (m m' : Map) : Type 0 where
  pub made : m p ≡ None → m' p ≡ Some Dir
  pub kept : m p ≢ None → m' p ≡ m p
  pub there : IsSome (m' p)
  pub elsewhere : (q : Path) → q ≢ p → m' q ≡ m q

-- u has each directory that s has above p at less than k names, and else what it had
pub record HasFronts (p : Path) (k : ℕ) (s old u : Map) : Type 0 where
  pub was : IsWithin s old
  pub passed : (q r : Path) → p ≡ q ++ r → length q < k → (s q ≡ Some Dir) × (u q ≡ Some Dir)
  pub others : (q : Path) → ((r : Path) → p ≡ q ++ r → length q < k → ⊥) → u q ≡ old q

-- the path is at or under one of these
pub record IsUnder (ps : List Path) (q : Path) : Type 0 where
  pub top : Path
  pub among : Contains ps top
  pub under : Under q top

-- t has what u has at and under these paths, and elsewhere what s has
pub record Puts (ps : List Path) (s u t : Map) : Type 0 where
  pub put : (q : Path) → IsUnder ps q → t q ≡ u q
  pub kept : (q : Path) → (IsUnder ps q → ⊥) → t q ≡ s q

-- what v has at p has a place in m, and where either has nothing at p it has nothing under it
pub record HasPlace (p : Path) (m v : Map) : Type 0 where
  pub placed : v p ≢ None → m p ≢ None
  pub empty : m p ≡ None → (q : Path) → m (p ++ q) ≡ None
  pub alone : v p ≡ None → (q : Path) → v (p ++ q) ≡ None

-- v' is v but for what is at or under p
pub record IsSameOff (p : Path) (v v' : Map) : Type 0 where
  pub off : (q : Path) → (Under q p → ⊥) → v' q ≡ v q

-- v' is v but for what is at or under these paths
pub record IsSameOffAll (ps : List Path) (v v' : Map) : Type 0 where
  pub off : (q : Path) → (IsUnder ps q → ⊥) → v' q ≡ v q

-- each of these has a place in m, where v has something there
pub record HavePlaces (ps : List Path) (m v : Map) : Type 0 where
  pub each : (f : Path) → Contains ps f → v f ≢ None → m f ≢ None

-- none of these is at or under another one
pub record AreTops (ps : List Path) : Type 0 where
  pub pairs : AllPairs Apart ps

-- something stands at each of these
pub record AreThere (ps : List Path) (m : Map) : Type 0 where
  pub each : (f : Path) → Contains ps f → m f ≢ None

-- nothing stands at these, and something may be added at each
pub record AreFree (ps : List Path) (s : Map) : Type 0 where
  pub absent : (f : Path) → Contains ps f → s f ≡ None
  pub parents : (f : Path) → Contains ps f → HasParent f s

-- m has a directory at each of these, and else is s
pub record HasDirs (ps : List Path) (s m : Map) : Type 0 where
  pub made : (f : Path) → Contains ps f → m f ≡ Some Dir
  pub each : (q : Path) → (m q ≡ s q) ⊎ (Contains ps q × (m q ≡ Some Dir))

-- the two are the same at each path
pub record AreSame (s m : Map) : Type 0 where
  pub each : (q : Path) → m q ≡ s q

-- where nothing stands at one of these nothing stands under it
pub record AreBare (ps : List Path) (m : Map) : Type 0 where
  pub bare : (f : Path) → Contains ps f → m f ≡ None → (q : Path) → m (f ++ q) ≡ None

-- v has something at p, where s has nothing
pub record IsNewAt (p : Path) (s v : Map) : Type 0 where
  pub absent : s p ≡ None
  pub some : v p ≢ None

-- p is behind the others where it is new, and else they are as they were
pub data PushesNew (p : Path) (s v : Map) (old new : List Path) : Type 0 where
  pushed : IsNewAt p s v → new ≡ old ++ p ∷ [] → PushesNew p s v old new
  passed : (IsNewAt p s v → ⊥) → new ≡ old → PushesNew p s v old new

-- these are those of the paths that are new
pub record AreNew (ps : List Path) (s v : Map) (new : List Path) : Type 0 where
  pub among : (f : Path) → Contains new f → Contains ps f
  pub fresh : (f : Path) → Contains new f → IsNewAt f s v
  pub all : (f : Path) → Contains ps f → IsNewAt f s v → Contains new f
  pub tops : AreTops new

-- what v has at one of these has a parent in s
pub record HaveParents (ps : List Path) (s v : Map) : Type 0 where
  pub each : (f : Path) → Contains ps f → v f ≢ None → HasParent f s

-- none of these is the root
pub record AreBelowRoot (ps : List Path) : Type 0 where
  pub below : (f : Path) → Contains ps f → f ≢ []

-- these are tops, each path is at or under one of them, and they are among the paths
pub record AreTopsOf (ps ts : List Path) : Type 0 where
  pub tops : AreTops ts
  pub cover : (f : Path) → Contains ps f → IsUnder ts f
  pub among : (f : Path) → Contains ts f → Contains ps f
