-- Staircases of squares, which split a list in two (`darcs apply` so puts the patches of a context in front).
-- `Square x y y' x'` says that x then y are y' then x'.
use Rattle.std.specs.Prelude.{◌≡◌, List, [], ◌∷◌, ◌++◌}
use Rattle.dm_prim.specs.Rectangles.{CellRow, Rectangle}

-- h passes all of xs, the nearest first: xs then h are h' then xs'
abbrev pub Passes : {P : Type 0} → (P → P → P → P → Type 0) → List P → P → P → List P → Type 0
Passes Square xs h h' xs' = Rectangle Square xs (h ∷ []) (h' ∷ []) xs'

-- h passes what stands after r in xs, and then has no square with r
pub record PassStops {P : Type 0} (Square : P → P → P → P → Type 0) (xs : List P) (h r : P) : Type 0 where
  pub far : List P
  pub near : List P
  pub near' : List P
  pub h1 : P
  pub at : xs ≡ far ++ r ∷ near
  pub passed : Passes Square near h h1 near'
  pub stuck : (h' r' : P) → Square r h1 h' r' → ⊥

-- a list is split into a front, its members in the set, and a rest, the others: each of the set passes all outside it that stand before it.
-- Told from the end of the list: a patch of the set stays in front; another yields to the whole front of what stands after it.
-- It is a staircase: each patch outside the set has a row of squares, one for each of the set after it, so no row is longer than the one before it
pub data Split {P : Type 0} (Square : P → P → P → P → Type 0) (In : P → Type 0) : List P → List P → List P → Type 0 where
  nothing : Split Square In [] [] []
  stays : {h : P} {xs front rest : List P} → In h → Split Square In xs front rest → Split Square In (h ∷ xs) (h ∷ front) rest
  yields : {r r' : P} {xs front front' rest : List P} → (In r → ⊥) → Split Square In xs front rest →
      CellRow Square r front front' r' → Split Square In (r ∷ xs) front' (r' ∷ rest)

-- all before h are split, and h, of the set, can't pass the rest: r is the nearest to stop it
pub record SplitStops {P : Type 0} (Square : P → P → P → P → Type 0) (In : P → Type 0) (xs : List P) (h r : P) : Type 0 where
  pub before : List P
  pub after : List P
  pub front : List P
  pub rest : List P
  pub at : xs ≡ before ++ h ∷ after
  pub so_far : Split Square In before front rest
  pub in_set : In h
  pub stops : PassStops Square rest h r
