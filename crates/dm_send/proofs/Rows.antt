-- Rows of squares along a slice: the patch on its way passes one more.
use Rattle.std.proofs.Common.{◌≡◌, ℕ, zero, suc, ◌+◌, ◌-◌, ◌<◌, List, [], ◌∷◌, ◌++◌, length, take, drop, get_or, slice_get, Some, set, min, Bool, true, false, refl, arith, ◌∙◌}
use Rattle.std.specs.Prelude.{MatchBool}
use Rattle.std.proofs.lemmas.List.{take_more, take_more_set, drop-set-lt, drop_min, take_min}
use Rattle.dm_prim.specs.Rectangles.{CellRow, none, next, empty, row}
use Rattle.dm_prim.proofs.RectangleLemmas.{rectangle_one}
use Rattle.dm_named.specs.Patches.{Patch}
use Rattle.dm_named.specs.Commuting.{NamedCommutes}
use Rattle.dm_repo.proofs.RowSteps.{around, same_at}
use Rattle.dm_repo.proofs.Staircases.{strip_part}
use Rattle.dm_send.specs.Minimizing.{IsNeeded, Minimizes, MinimizesBehind, goes, stays, Yields}

first_of : {P : Type 0} (x y : P) → x ∷ [] ≡ y ∷ [] → x ≡ y
first_of x y e = cc

module _ {P : Type 0} (Square : P → P → P → P → Type 0) where
  row_push : {x x1 x' y y' : P} {ys ys' : List P} → CellRow Square x ys ys' x1 → Square x1 y y' x' → CellRow Square x (ys ++ y ∷ []) (ys' ++ y' ∷ []) x'
  row_push none c = next c none
  row_push (next d s) c = next d (row_push s c)

  first_square : {x x' y : P} {ys zs : List P} → CellRow Square x (y ∷ ys) zs x' → (y' : P) × (x1 : P) × Square x y y' x1
  first_square (next {y'} {x1} c s) = (y', x1, c)

  -- what is passed stays as it is
  pub row_asked : (xs ys : List P) (k : ℕ) (y : P) {x x1 x' y' : P} {over : List P} → k < length xs → ys ≡ xs → CellRow Square x (take k xs) over x1 → Square x1 (get_or ys k y) y' x' →
      CellRow Square x (take (k + 1) xs) (over ++ y' ∷ []) x'
  row_asked xs ys k y i e g c = rw (take_more xs k y i) (row_push g (rw e at c))

  -- y was read at k of ys, which is xs but for what the row has changed
  pub row_step : (xs ys : List P) (k : ℕ) (y l : P) {x x1 x' : P} → k < length xs → length ys ≡ length xs → drop k ys ≡ drop k xs → CellRow Square x (take k xs) (take k ys) x1 → Square x1 (get_or ys k y) l x' →
      CellRow Square x (take (k + 1) xs) (take (k + 1) (set ys k l)) x' × (drop (k + 1) (set ys k l) ≡ drop (k + 1) xs)
  row_step xs ys k y l i j e g c =
      let s = same_at xs ys k y i j e in
      (rw (take_more xs k y i, take_more_set ys k l (omega (arith, i, j)), ← s.0) (row_push g c), drop-set-lt (k + 1) ys k l (omega arith) ∙ s.1)

  module _ (square_one : (p q q1 p1 q2 p2 : P) → Square p q q1 p1 → Square p q q2 p2 → (q1 ≡ q2) × (p1 ≡ p2)) where
    pub rows_one : {x x1 x2 : P} {ys ys1 ys2 : List P} → CellRow Square x ys ys1 x1 → CellRow Square x ys ys2 x2 → (ys1 ≡ ys2) × (x1 ≡ x2)
    rows_one {x1} {x2} s t = let e = rectangle_one P Square square_one (row empty s) (row empty t) in (e.0, first_of x1 x2 e.1)

    -- a row that ends early doesn't go through
    pub row_stuck : (xs : List P) (k : ℕ) (y : P) {x x1 : P} {near : List P} → k < length xs → y ≡ get_or xs k y → CellRow Square x (take k xs) near x1 → ((y' x' : P) → Square x1 y y' x' → ⊥) →
        (over : List P) (left : P) → CellRow Square x xs over left → ⊥
    row_stuck xs k y i h g c over left w =
        let a = strip_part P Square (take k xs) (rw (around xs k y i h) at w) in
        let e = rows_one g a.3 in
        let f = first_square a.4 in
        let stop : (y' x' : P) → Square a.0 y y' x' → ⊥ = rw e.1 at c in
        stop f.0 f.1 f.2

    -- past what is needed, and then past what is sent
    pub yield_stuck : {x : P} {needed sent : List P} → ((over : List P) (left : P) → CellRow Square x needed over left → ⊥) → IsNeeded Square x needed sent
    yield_stuck f needed' sent' x' y = f needed' y.between y.past_needed

    pub yield_rest : {x x' between : P} {needed sent needed' sent' needed1 : List P} → Yields Square x needed sent needed' sent' x' → CellRow Square x needed needed1 between → CellRow Square between sent sent' x'
    yield_rest y g = let e = (rows_one y.past_needed g).1 in rw e at y.past_sent

    pub yield_answer : (b : Bool) {x between : P} (left : P) {needed needed' : List P} (sent : List P) → CellRow Square x needed needed' between →
        MatchBool b ((over : List P) × CellRow Square between sent over left) ((over : List P) (l : P) → CellRow Square between sent over l → ⊥) →
        MatchBool b ((needed' : List P) × (sent' : List P) × (l : P) × Yields Square x needed sent needed' sent' l) (IsNeeded Square x needed sent)
    yield_answer true {between} left {needed'} sent g (over, h) = (needed', over, left, record { between = between; past_needed = g; past_sent = h })
    yield_answer false left sent g f = λ needed' sent' x' y. f sent' x' (yield_rest y g)

-- a square that was tried with a copy of what is passed
pub tried : (passes : Bool) (x y t y' x' : Patch) → t ≡ y → MatchBool passes (NamedCommutes x t y' x') ((q p : Patch) → NamedCommutes x t q p → ⊥) →
    MatchBool passes ((over : Patch) × NamedCommutes x y over x') ((over left : Patch) → NamedCommutes x y over left → ⊥)
tried true x y t y' x' e c = (y', rw e at c)
tried false x y t y' x' e f = rw e at f

-- a loop that counts down from j reads at j - 1
module _ {X : Type 0} where
  drop_at : (xs : List X) (k : ℕ) (x : X) → slice_get xs k ≡ Some x → drop k xs ≡ x ∷ drop (k + 1) xs
  drop_at [] k x e = absurd (cc)
  drop_at (y ∷ ys) zero x e = let f : x ≡ y = cc in rw f refl
  drop_at (y ∷ ys) (suc k) x e = let n : suc k + 1 ≡ suc (k + 1) = omega arith in rw n (drop_at ys k x e)

  pub drop_down : (xs : List X) (j : ℕ) (x : X) → 0 < j → slice_get xs (j - 1) ≡ Some x → drop (j - 1) xs ≡ x ∷ drop j xs
  drop_down xs j x o e = let k : j - 1 + 1 ≡ j = omega (arith, o) in rw k at (drop_at xs (j - 1) x e)

module _ {P : Type 0} (Square : P → P → P → P → Type 0) where
  pub more_goes : (xs : List P) (j : ℕ) (x : P) {left : P} {new needed sent needed' sent' gone : List P} → 0 < j → slice_get xs (j - 1) ≡ Some x → Minimizes Square (drop j xs) new needed sent gone →
      Yields Square x needed sent needed' sent' left → Minimizes Square (drop (j - 1) xs) new needed' sent' (left ∷ gone)
  more_goes xs j x o e m y = rw (drop_down xs j x o e) (goes m y)

  pub more_stays : (xs : List P) (j : ℕ) (x : P) {new needed sent gone : List P} → 0 < j → slice_get xs (j - 1) ≡ Some x → Minimizes Square (drop j xs) new needed sent gone →
      IsNeeded Square x needed sent → Minimizes Square (drop (j - 1) xs) new (x ∷ needed) sent gone
  more_stays xs j x o e m n = rw (drop_down xs j x o e) (stays m n)

  -- the first ones, as many as there are, are kept
  pub behind_first : (base k : ℕ) (xs : List P) {new needed sent gone : List P} → k ≡ min base (length xs) → Minimizes Square (drop k xs) new needed sent gone →
      MinimizesBehind Square base xs new (take k xs ++ needed) sent gone
  behind_first base k xs {needed = ys} e m = record { needed = ys; minimizes = rw (e, drop_min base xs) at m; is_kept = rw (e, take_min base xs) refl }
