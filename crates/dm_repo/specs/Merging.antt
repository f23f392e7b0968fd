-- Rectangles of squares, which merge two lists that start at one state (`darcs apply --no-allow-conflicts`).
-- `Square r n n' r'` says that n is n' after r, and r is r' after n.
use Rattle.std.specs.Prelude.{◌≡◌, List, [], ◌∷◌, ◌++◌}
use Rattle.dm_prim.specs.Rectangles.{CellRow}

-- rest and new are two sides of a rectangle, new' and rest' those across from them: new' is new after rest, and rest' is rest after new;
-- the first of rest meets new, the next what that left of new
pub data MergeRectangle {P : Type 0} (Square : P → P → P → P → Type 0) : List P → List P → List P → List P → Type 0 where
  bare : {new : List P} → MergeRectangle Square [] new new []
  over : {r r' : P} {rest rest' new between new' : List P} → CellRow Square r new between r' →
      MergeRectangle Square rest between new' rest' → MergeRectangle Square (r ∷ rest) new new' (r' ∷ rest')

-- n is n' after rest: it is merged with each of rest, the first of them first
abbrev pub MergesPast : {P : Type 0} → (P → P → P → P → Type 0) → List P → P → P → List P → Type 0
MergesPast Square rest n n' rest' = MergeRectangle Square rest (n ∷ []) (n' ∷ []) rest'

-- n is merged with what stands before r, and then has no square with r
pub record MergePastStops {P : Type 0} (Square : P → P → P → P → Type 0) (rest : List P) (n r : P) : Type 0 where
  pub near : List P
  pub near' : List P
  pub far : List P
  pub n1 : P
  pub at : rest ≡ near ++ r ∷ far
  pub joined : MergesPast Square near n n1 near'
  pub stuck : (n' r' : P) → Square r n1 n' r' → ⊥

-- new is new' after rest
abbrev pub Merge : {P : Type 0} → (P → P → P → P → Type 0) → List P → List P → List P → Type 0
Merge {P} Square rest new new' = (rest' : List P) × MergeRectangle Square rest new new' rest'

-- all before n are merged, and n can't be merged with r, the first of the rest to stop it
pub record MergeStops {P : Type 0} (Square : P → P → P → P → Type 0) (rest new : List P) (n r : P) : Type 0 where
  pub before : List P
  pub after : List P
  pub before' : List P
  pub rest1 : List P
  pub at : new ≡ before ++ n ∷ after
  pub so_far : MergeRectangle Square rest before before' rest1
  pub stops : MergePastStops Square rest1 n r
