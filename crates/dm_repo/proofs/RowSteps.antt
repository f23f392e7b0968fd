-- One more square of a row that is kept in a slice.
use Rattle.std.proofs.Common.{◌≡◌, ℕ, ◌+◌, ◌-◌, ◌<◌, ◌≤◌, List, [], ◌∷◌, ◌++◌, length, map, take, drop, get_or, set, refl, sym, ap, ap₂, ◌∙◌, arith, take-append-drop}
use Rattle.std.proofs.lemmas.List.{take_more, take_more_set, map_push, map-append, same_from_push, drop_more, drop-set, drop-set-lt, take-set}
use Rattle.dm_prim.specs.Primitives.{Prim, inv_all}
use Rattle.dm_prim.specs.Rectangles.{none, next, row}
use Rattle.dm_prim.specs.Commuting.{ListsCommute}
use Rattle.dm_repo.proofs.Inverses.{inv_all-inv_all}
use Rattle.dm_named.specs.Patches.{Patch}
use Rattle.dm_named.specs.Commuting.{Stays, NamedCommutes}
use Rattle.dm_repo.specs.Staircases.{Passes, PassStops}
use Rattle.dm_repo.specs.Merging.{MergeRectangle, MergesPast, MergePastStops, MergeStops}
use Rattle.dm_repo.specs.Squares.{Placed, PlacedCommutes, PlacedMerges, undone}
use Rattle.dm_repo.proofs.Staircases.{join_more, merge_along}

module _ {X : Type 0} where
  -- from k on the two are alike
  pub same_at : (xs ys : List X) (k : ℕ) (x : X) → k < length xs → length ys ≡ length xs → drop k ys ≡ drop k xs →
      (get_or ys k x ≡ get_or xs k x) × (drop (k + 1) ys ≡ drop (k + 1) xs)
  same_at xs ys k x l n e =
      let a : drop k xs ≡ get_or xs k x ∷ drop (k + 1) xs = drop_more xs k x l in
      let b : drop k ys ≡ get_or ys k x ∷ drop (k + 1) ys = drop_more ys k x (omega arith) in
      (cc, cc)

  -- before k + 1 the two are alike
  same_before : (xs ys : List X) (k : ℕ) (x : X) → k < length xs → length ys ≡ length xs → take (k + 1) ys ≡ take (k + 1) xs →
      (get_or ys k x ≡ get_or xs k x) × (take k ys ≡ take k xs)
  same_before xs ys k x l n e =
      let s = same_from_push (take k ys) (take k xs) (get_or ys k x) (get_or xs k x) (sym (take_more ys k x (omega arith)) ∙ e ∙ take_more xs k x l) in (s.1, s.0)

  pub around : (xs : List X) (k : ℕ) (x : X) → k < length xs → x ≡ get_or xs k x → xs ≡ take k xs ++ x ∷ drop (k + 1) xs
  around xs k x l e = sym (take-append-drop k xs) ∙ ap (λ z. take k xs ++ z) (drop_more xs k x l ∙ ap (λ z. z ∷ drop (k + 1) xs) (sym e))

-- x is what was read at k of ys, which is xs but for what the row has changed
module _ {X P : Type 0} (m : X → P) (Square : P → P → P → P → Type 0) where
  pub merge_past_step : (xs ys : List X) (k : ℕ) (x l : X) {n0 n n' : P} → k < length xs → length ys ≡ length xs → drop k ys ≡ drop k xs →
      MergesPast Square (map m (take k xs)) n0 n (map m (take k ys)) → Square (m (get_or ys k x)) n n' (m l) →
      MergesPast Square (map m (take (k + 1) xs)) n0 n' (map m (take (k + 1) (set ys k l))) × (drop (k + 1) (set ys k l) ≡ drop (k + 1) xs)
  merge_past_step xs ys k x l {n0} {n} {n'} i j e g c =
      let s = same_at xs ys k x i j e in (
        rw (take_more xs k x i, take_more_set ys k l (omega arith), map_push m (take k xs) (get_or xs k x), map_push m (take k ys) l, ← s.0) (join_more P Square g c),
        drop-set-lt (k + 1) ys k l (omega arith) ∙ s.1,
      )

  pub merge_past_stop : (xs ys : List X) (k : ℕ) (x : X) {n0 n : P} → k < length xs → length ys ≡ length xs → drop k ys ≡ drop k xs → x ≡ get_or ys k x →
      MergesPast Square (map m (take k xs)) n0 n (map m (take k ys)) → ((n' r' : P) → Square (m (get_or ys k x)) n n' r' → ⊥) →
      MergePastStops Square (map m xs) n0 (m x)
  merge_past_stop xs ys k x {n0} {n} i j e h g c =
      let f = h ∙ (same_at xs ys k x i j e).0 in
      record {
        near = map m (take k xs);
        near' = map m (take k ys);
        far = map m (drop (k + 1) xs);
        n1 = n;
        at = ap (map m) (around xs k x i f) ∙ map-append m (take k xs) (x ∷ drop (k + 1) xs);
        joined = g;
        stuck = rw (← h) at c;
      }

module _ {P : Type 0} (Square : P → P → P → P → Type 0) where
  pass_up : (xs ys : List P) (k : ℕ) (x l : P) {n0 n n' : P} → k < length xs → length ys ≡ length xs → take (k + 1) ys ≡ take (k + 1) xs →
      Passes Square (drop (k + 1) xs) n0 n (drop (k + 1) ys) → Square (get_or ys k x) n n' l →
      Passes Square (drop k xs) n0 n' (drop k (set ys k l)) × (take k (set ys k l) ≡ take k xs)
  pass_up xs ys k x l i j e g c =
      let b = same_before xs ys k x i j e in
      (rw (drop_more xs k x i, drop-set ys k l (omega arith), ← b.0) (row g (next c none)), take-set ys k l ∙ b.1)

  -- a loop that counts down from j reads at j - 1
  pub pass_step : (xs ys : List P) (j : ℕ) (x l : P) {n0 n n' : P} → 0 < j → j ≤ length xs → length ys ≡ length xs → take j ys ≡ take j xs →
      Passes Square (drop j xs) n0 n (drop j ys) → Square (get_or ys (j - 1) x) n n' l →
      Passes Square (drop (j - 1) xs) n0 n' (drop (j - 1) (set ys (j - 1) l)) × (take (j - 1) (set ys (j - 1) l) ≡ take (j - 1) xs)
  pass_step xs ys j x l o i n e g c = let k : j ≡ (j - 1) + 1 = omega arith in pass_up xs ys (j - 1) x l (omega arith) n (rw k at e) (rw k at g) c

  stop_up : (xs ys : List P) (k : ℕ) (x : P) {n0 n : P} → k < length xs → length ys ≡ length xs → take (k + 1) ys ≡ take (k + 1) xs → x ≡ get_or ys k x →
      Passes Square (drop (k + 1) xs) n0 n (drop (k + 1) ys) → ((n' r' : P) → Square (get_or ys k x) n n' r' → ⊥) →
      PassStops Square xs n0 x
  stop_up xs ys k x {n0} {n} i j e h g c =
      let f = h ∙ (same_before xs ys k x i j e).0 in
      record {
        far = take k xs;
        near = drop (k + 1) xs;
        near' = drop (k + 1) ys;
        h1 = n;
        at = around xs k x i f;
        passed = g;
        stuck = rw (← h) at c;
      }

  pub pass_stop : (xs ys : List P) (j : ℕ) (x : P) {n0 n : P} → 0 < j → j ≤ length xs → length ys ≡ length xs → take j ys ≡ take j xs → x ≡ get_or ys (j - 1) x →
      Passes Square (drop j xs) n0 n (drop j ys) → ((n' r' : P) → Square (get_or ys (j - 1) x) n n' r' → ⊥) →
      PassStops Square xs n0 x
  pass_stop xs ys j x o i n e h g c = let k : j ≡ (j - 1) + 1 = omega arith in stop_up xs ys (j - 1) x (omega arith) n (rw k at e) h (rw k at g) c

-- one more row of a merge, whose patches are kept in a slice
module _ {P : Type 0} (Square : P → P → P → P → Type 0) where
  pub merge_step : (xs ys : List P) (k : ℕ) (x n : P) {rest rest1 rest2 : List P} → k < length xs → length ys ≡ length xs → drop k ys ≡ drop k xs → x ≡ get_or ys k x →
      MergeRectangle Square rest (take k xs) (take k ys) rest1 → MergesPast Square rest1 x n rest2 →
      MergeRectangle Square rest (take (k + 1) xs) (take (k + 1) (set ys k n)) rest2 × (drop (k + 1) (set ys k n) ≡ drop (k + 1) xs)
  merge_step xs ys k x n i j e h g c =
      let s = same_at xs ys k x i j e in
      let f : x ≡ get_or xs k x = h ∙ s.0 in
      let t : take (k + 1) xs ≡ take k xs ++ x ∷ [] = take_more xs k x i ∙ ap (λ z. take k xs ++ z ∷ []) (sym f) in
      (rw (t, take_more_set ys k n (omega arith)) (merge_along P Square g c), drop-set-lt (k + 1) ys k n (omega arith) ∙ s.1)

  pub merge_stop : (xs ys : List P) (k : ℕ) (x r : P) {rest rest1 : List P} → k < length xs → length ys ≡ length xs → drop k ys ≡ drop k xs → x ≡ get_or ys k x →
      MergeRectangle Square rest (take k xs) (take k ys) rest1 → MergePastStops Square rest1 x r → MergeStops Square rest xs x r
  merge_stop xs ys k x r {rest1 = m} i j e h g c = record {
    before = take k xs;
    after = drop (k + 1) xs;
    before' = take k ys;
    rest1 = m;
    at = around xs k x i (h ∙ (same_at xs ys k x i j e).0);
    so_far = g;
    stops = c;
  }

-- one more of a slice that is mapped in place
module _ {X : Type 0} (m : X → X) where
  pub map_step : (xs ys : List X) (k : ℕ) (x n : X) → k < length xs → length ys ≡ length xs → drop k ys ≡ drop k xs → take k ys ≡ map m (take k xs) → n ≡ m (get_or ys k x) →
      (take (k + 1) (set ys k n) ≡ map m (take (k + 1) xs)) × (drop (k + 1) (set ys k n) ≡ drop (k + 1) xs)
  map_step xs ys k x n i j e h c =
      let s = same_at xs ys k x i j e in (
        take_more_set ys k n (omega arith) ∙ ap₂ (λ a b. a ++ b ∷ []) h (c ∙ ap m s.0) ∙ sym (map_push m (take k xs) (get_or xs k x)) ∙ ap (map m) (sym (take_more xs k x i)),
        drop-set-lt (k + 1) ys k n (omega arith) ∙ s.1,
      )

-- squares of patches with their places
pub placed_square : (x y : Placed) (y' x' : Patch) → NamedCommutes x.1 y.1 y' x' → PlacedCommutes x y (y.0, y') (x.0, x')
placed_square x y y' x' c = record { x_place = refl; y_place = refl; commutes = c }

pub no_placed_square : (x y : Placed) → ((y' x' : Patch) → NamedCommutes x.1 y.1 y' x' → ⊥) → (y' x' : Placed) → PlacedCommutes x y y' x' → ⊥
no_placed_square x y h y' x' c = h y'.1 x'.1 c.commutes

pub merged_square : (r n : Placed) (n' r' : Patch) → Stays r.1 r' → Stays n.1 n' → ListsCommute r.1.prims n.1.prims n'.prims r'.prims → PlacedMerges (undone r) n (n.0, n') (undone (r.0, r'))
merged_square r n n' r' s t c = record {
  r_place = refl;
  n_place = refl;
  merges = record {
    r_stays = record { info = s.info; deps = s.deps };
    n_stays = t;
    prims = rw (inv_all-inv_all r.1.prims, inv_all-inv_all r'.prims) c;
  };
}

pub no_merged_square : (r n : Placed) → ((ys xs : List Prim) → ListsCommute r.1.prims n.1.prims ys xs → ⊥) → (n' r' : Placed) → PlacedMerges (undone r) n n' r' → ⊥
no_merged_square r n h n' r' c = h n'.1.prims (inv_all r'.1.prims) (rw (inv_all-inv_all r.1.prims) at c.merges.prims)
