-- Laws of pairs hold for rectangles.
use Rattle.std.proofs.Common.{◌≡◌, List, [], ◌∷◌, ◌++◌, refl, ap₂}
use Rattle.dm_prim.specs.InTurn.{InTurn, done, step}
use Rattle.dm_prim.specs.Rectangles.{CellRow, none, next, Rectangle, empty, row}

module _ (P : Type 0) (Cell : P → P → P → P → Type 0) where
  -- rectangles one above the other
  pub beside : {xs1 xs2 ys between ys' xs1' xs2' : List P} → Rectangle Cell xs2 ys between xs2' → Rectangle Cell xs1 between ys' xs1' → Rectangle Cell (xs1 ++ xs2) ys ys' (xs1' ++ xs2')
  beside g empty = g
  beside g (row h s) = row (beside g h) s

  pub one : {x x' : P} {ys ys' : List P} → CellRow Cell x ys ys' x' → Rectangle Cell (x ∷ []) ys ys' (x' ∷ [])
  one s = row empty s

  -- rows of cells one after the other
  pub cells_on : {x x1 x' : P} {ys zs ys' zs' : List P} → CellRow Cell x ys ys' x1 → CellRow Cell x1 zs zs' x' → CellRow Cell x (ys ++ zs) (ys' ++ zs') x'
  cells_on none t = t
  cells_on (next c s) t = next c (cells_on s t)

  -- rectangles side by side
  pub along : {xs xs1 xs' ys zs ys' zs' : List P} → Rectangle Cell xs ys ys' xs1 → Rectangle Cell xs1 zs zs' xs' → Rectangle Cell xs (ys ++ zs) (ys' ++ zs') xs'
  along empty empty = empty
  along (row g s) (row h t) = row (along g h) (cells_on s t)

  -- nothing on one side
  pub narrow : (xs : List P) → Rectangle Cell xs [] [] xs
  narrow [] = empty
  narrow (x ∷ xs) = row (narrow xs) none

  -- a rectangle has one of its lower part
  pub no_front : (front : List P) {xs ys ys' xs' : List P} → ((vs ws : List P) → Rectangle Cell xs ys vs ws → ⊥) → Rectangle Cell (front ++ xs) ys ys' xs' → ⊥
  no_front [] h g = h _ _ g
  no_front (x ∷ front) h (row g s) = no_front front h g

  module _ (turn : (p q q' p' : P) → Cell p q q' p' → Cell q' p' p q) where
    cells_turn : {x x' : P} {ys ys' : List P} → CellRow Cell x ys ys' x' → Rectangle Cell ys' (x' ∷ []) (x ∷ []) ys
    cells_turn none = empty
    cells_turn (next {x} {y} {y'} {x1} c s) = row (cells_turn s) (next (turn x y y' x1 c) none)

    pub rectangle_turn : {xs ys ys' xs' : List P} → Rectangle Cell xs ys ys' xs' → Rectangle Cell ys' xs' xs ys
    rectangle_turn (empty {ys}) = narrow ys
    rectangle_turn (row g s) = along (cells_turn s) (rectangle_turn g)

  -- one answer at most
  module _ (cell_one : (p q q1 p1 q2 p2 : P) → Cell p q q1 p1 → Cell p q q2 p2 → (q1 ≡ q2) × (p1 ≡ p2)) where
    cells_one : {x x1 z z1 : P} {ys ys1 zs1 : List P} → x ≡ z → CellRow Cell x ys ys1 x1 → CellRow Cell z ys zs1 z1 → (ys1 ≡ zs1) × (x1 ≡ z1)
    cells_one e none none = (refl, e)
    cells_one e (next {x} {y} {y'} {x1 = v} c s) (next {x = z} {y' = w} {x1 = u} d t) =
        let f : (y' ≡ w) × (v ≡ u) = cell_one x y y' v w u c (rw e d) in
        let g = cells_one f.1 s t in (ap₂ (λ a b. a ∷ b) f.0 g.0, g.1)

    cells_onto : {x x1 z1 : P} {ys zs ys1 zs1 : List P} → ys ≡ zs → CellRow Cell x ys ys1 x1 → CellRow Cell x zs zs1 z1 → (ys1 ≡ zs1) × (x1 ≡ z1)
    cells_onto {x} e s t = cells_one refl (rw e at s) t

    pub rectangle_one : {xs ys ys1 xs1 zs1 ws1 : List P} → Rectangle Cell xs ys ys1 xs1 → Rectangle Cell xs ys zs1 ws1 → (ys1 ≡ zs1) × (xs1 ≡ ws1)
    rectangle_one empty empty = (refl, refl)
    rectangle_one (row g s) (row h t) = let e = rectangle_one g h in let f = cells_onto e.0 s t in (f.0, ap₂ (λ a b. a ∷ b) f.1 e.1)

    -- a loop that meets a pair without a cell has shown that there is no rectangle
    pub no_row : {x : P} {xs ys between xs' ys' zs : List P} → Rectangle Cell xs ys between xs' → ((vs : List P) (v : P) → CellRow Cell x between vs v → ⊥) → Rectangle Cell (x ∷ xs) ys ys' zs → ⊥
    no_row g n (row {x' = v} {ys' = vs} h s) = let e = rectangle_one g h in n vs v (rw (← e.0) at s)

    no_next : {x z x1 y : P} {front front' ys' : List P} {x' : P} (rest : List P) → x ≡ z → CellRow Cell x front front' x1 → ((y' x2 : P) → Cell x1 y y' x2 → ⊥) → CellRow Cell z (front ++ y ∷ rest) ys' x' → ⊥
    no_next {y = y} rest e none n (next {y' = w} {x1 = u} d t) = n w u (rw e d)
    no_next rest e (next {x} {y} {y'} {x1 = v} c s) n (next {y' = w} {x1 = u} d t) =
        let f : (y' ≡ w) × (v ≡ u) = cell_one x y y' v w u c (rw e d) in no_next rest f.1 s n t

    pub no_cells : {x x1 y : P} {front front' ys' : List P} {x' : P} (rest : List P) → CellRow Cell x front front' x1 → ((y' x2 : P) → Cell x1 y y' x2 → ⊥) → CellRow Cell x (front ++ y ∷ rest) ys' x' → ⊥
    no_cells rest s n t = no_next rest refl s n t

-- a run, and another from where it ended
module _ (P S : Type 0) (Step : P → S → S → Type 0) where
  pub runs_on : {xs ys : List P} {s u z : S} → InTurn Step xs s u → InTurn Step ys u z → InTurn Step (xs ++ ys) s z
  runs_on done r = r
  runs_on (step h t) r = step h (runs_on t r)

-- both ways round a rectangle have one end
module _ (P S : Type 0) (Cell : P → P → P → P → Type 0) (Step : P → S → S → Type 0)
    (cell_runs : (p q q' p' : P) → Cell p q q' p' → (s u z : S) → Step p s u → Step q u z → (m : S) × Step q' s m × Step p' m z) where
  cells_run : {x x' : P} {ys ys' : List P} {s u z : S} → CellRow Cell x ys ys' x' → Step x s u → InTurn Step ys u z → (m : S) × InTurn Step ys' s m × Step x' m z
  cells_run none h done = (_, done, h)
  cells_run {s = s} (next {x} {y} {y'} {x1} c t) h (step {u = u} {z = z} k r) =
      let w : (m : S) × Step y' s m × Step x1 m _ = cell_runs x y y' x1 c s _ _ h k in
      let a = cells_run t w.2 r in (a.0, step w.1 a.1, a.2)

  pub rectangle_runs : {xs ys ys' xs' : List P} {s u z : S} → Rectangle Cell xs ys ys' xs' → InTurn Step xs s u → InTurn Step ys u z → (m : S) × InTurn Step ys' s m × InTurn Step xs' m z
  rectangle_runs empty done r = (_, r, done)
  rectangle_runs (row g t) (step h a) r = let b = rectangle_runs g a r in let c = cells_run t h b.1 in (c.0, c.1, step c.2 b.2)
