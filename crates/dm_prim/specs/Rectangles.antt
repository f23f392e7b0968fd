-- Rectangles of cells, whatever a cell is: `Cell x y y' x'` says that x then y is y' then x'.
use Rattle.std.specs.Prelude.{List, [], ◌∷◌}

-- x then ys is ys' then x': cells side by side, each with the x that the one before it left
pub data CellRow {P : Type 0} (Cell : P → P → P → P → Type 0) : P → List P → List P → P → Type 0 where
  none : {x : P} → CellRow Cell x [] [] x
  next : {x y y' x1 x' : P} {ys ys' : List P} → Cell x y y' x1 → CellRow Cell x1 ys ys' x' → CellRow Cell x (y ∷ ys) (y' ∷ ys') x'

-- xs then ys is ys' then xs': rows one above the other, the last of xs passing ys first, the one before it what that left
pub data Rectangle {P : Type 0} (Cell : P → P → P → P → Type 0) : List P → List P → List P → List P → Type 0 where
  empty : {ys : List P} → Rectangle Cell [] ys ys []
  row : {x x' : P} {xs xs' ys between ys' : List P} → Rectangle Cell xs ys between xs' → CellRow Cell x between ys' x' → Rectangle Cell (x ∷ xs) ys ys' (x' ∷ xs')
