-- Rows that are asked for: what is passed stays as it is.
use Rattle.std.specs.Prelude.{MatchBool, Contains}
use Rattle.std.proofs.Common.{◌≡◌, ℕ, ◌+◌, ◌-◌, ◌<◌, ◌≤◌, List, [], ◌∷◌, ◌++◌, length, map, take, drop, get_or, set, Bool, true, false, refl, ap, ◌∙◌, arith}
use Rattle.std.proofs.lemmas.List.{take_more, map_push, map-append, drop_more, set-get_or}
use Rattle.dm_prim.specs.Rectangles.{none, next, row}
use Rattle.dm_prim.specs.Primitives.{Prim}
use Rattle.dm_prim.specs.Commuting.{ListsCommute}
use Rattle.dm_named.specs.Patches.{Patch}
use Rattle.dm_named.specs.Commuting.{NamedCommutes, Stays}
use Rattle.dm_repo.specs.Staircases.{Passes, PassStops}
use Rattle.dm_repo.specs.Merging.{MergesPast, MergePastStops}
use Rattle.dm_repo.specs.Squares.{Placed, PlacedCommutes, PlacedMerges, undone}
use Rattle.dm_repo.specs.declared.stop.Stop.{Stop}
use Rattle.dm_repo.specs.declared.stop.Stop.TheVariants.{At, NoMemory}
use Rattle.dm_repo.specs.Stops.{StopsAt}
use Rattle.dm_prim.proofs.RectangleLemmas.{rectangle_one}
use Rattle.dm_repo.proofs.Placed.{placed_one, merged_one}
use Rattle.dm_repo.proofs.RowSteps.{around, placed_square, no_placed_square, merged_square, no_merged_square}
use Rattle.dm_repo.proofs.Staircases.{join_more, pass_stops, join_stops}

-- what is written where it was read changes nothing
pub set_same : {X : Type 0} (xs ys : List X) (k : ℕ) (x d : X) → ys ≡ xs → x ≡ get_or ys k d → set ys k x ≡ xs
set_same xs ys k x d e h = rw h (set-get_or ys k d ∙ e)

-- x is what was read at k of ys, which is xs; a loop that counts down from j reads at j - 1
module _ {P : Type 0} (Square : P → P → P → P → Type 0) where
  pub ask_pass : (xs ys : List P) (j : ℕ) (x : P) {n0 n n' l : P} {near : List P} → 0 < j → j ≤ length xs → ys ≡ xs → x ≡ get_or ys (j - 1) x →
      Passes Square (drop j xs) n0 n near → Square (get_or ys (j - 1) x) n n' l → Passes Square (drop (j - 1) xs) n0 n' (l ∷ near)
  ask_pass xs ys j x o i e h g c =
      let k : j ≡ (j - 1) + 1 = omega arith in
      rw (drop_more xs (j - 1) x (omega arith)) (row (rw k at g) (next (rw e at c) none))

  -- where nothing is changed
  pub pass_on : (xs ys : List P) (j : ℕ) (x : P) {n : P} → 0 < j → j ≤ length xs → ys ≡ xs →
      Passes Square (drop j xs) n n (drop j xs) → Square (get_or ys (j - 1) x) n n (get_or ys (j - 1) x) → Passes Square (drop (j - 1) xs) n n (drop (j - 1) xs)
  pass_on xs ys j x o i e g c =
      let k : j ≡ (j - 1) + 1 = omega arith in
      rw (drop_more xs (j - 1) x (omega arith)) (row (rw k at g) (next (rw e at c) none))

  pub ask_pass_stop : (xs ys : List P) (j : ℕ) (x : P) {n0 n : P} {near : List P} → 0 < j → j ≤ length xs → ys ≡ xs → x ≡ get_or ys (j - 1) x →
      Passes Square (drop j xs) n0 n near → ((n' r' : P) → Square (get_or ys (j - 1) x) n n' r' → ⊥) → PassStops Square xs n0 x
  ask_pass_stop xs ys j x {n0} {n} {near} o i e h g c =
      let k : j ≡ (j - 1) + 1 = omega arith in
      record {
        far = take (j - 1) xs;
        near = drop ((j - 1) + 1) xs;
        near' = near;
        h1 = n;
        at = around xs (j - 1) x (omega arith) (rw e at h);
        passed = rw k at g;
        stuck = rw (← h) at c;
      }

module _ {X P : Type 0} (m : X → P) (Square : P → P → P → P → Type 0) where
  pub ask_merge : (xs ys : List X) (k : ℕ) (x : X) {n0 n n' l : P} {near : List P} → k < length xs → ys ≡ xs → x ≡ get_or ys k x →
      MergesPast Square (map m (take k xs)) n0 n near → Square (m (get_or ys k x)) n n' l → MergesPast Square (map m (take (k + 1) xs)) n0 n' (near ++ l ∷ [])
  ask_merge xs ys k x i e h g c = rw (take_more xs k x i, map_push m (take k xs) (get_or xs k x)) (join_more P Square g (rw e at c))

  -- where nothing is changed
  pub merge_on : (xs ys : List X) (k : ℕ) (x : X) {n : P} → k < length xs → ys ≡ xs →
      MergesPast Square (map m (take k xs)) n n (map m (take k xs)) → Square (m (get_or ys k x)) n n (m (get_or ys k x)) →
      MergesPast Square (map m (take (k + 1) xs)) n n (map m (take (k + 1) xs))
  merge_on xs ys k x i e g c = rw (take_more xs k x i, map_push m (take k xs) (get_or xs k x)) (join_more P Square g (rw e at c))

  pub ask_merge_stop : (xs ys : List X) (k : ℕ) (x : X) {n0 n : P} {near : List P} → k < length xs → ys ≡ xs → x ≡ get_or ys k x →
      MergesPast Square (map m (take k xs)) n0 n near → ((n' r' : P) → Square (m (get_or ys k x)) n n' r' → ⊥) → MergePastStops Square (map m xs) n0 (m x)
  ask_merge_stop xs ys k x {n0} {n} {near} i e h g c = record {
    near = map m (take k xs);
    near' = near;
    far = map m (drop (k + 1) xs);
    n1 = n;
    at = ap (map m) (around xs k x i (rw e at h)) ∙ map-append m (take k xs) (x ∷ drop (k + 1) xs);
    joined = g;
    stuck = rw (← h) at c;
  }

stays : (x : Patch) → Stays x x
stays x = record { info = refl; deps = refl }

-- a square that was tried with a copy
pub tried_square : (passes : Bool) (x y t : Placed) (y' x' : Patch) → t ≡ x → MatchBool passes (NamedCommutes t.1 y.1 y' x') ((q p : Patch) → NamedCommutes t.1 y.1 q p → ⊥) →
    MatchBool passes ((left : Placed) × PlacedCommutes x y (y.0, y') left) ((over : Placed) (left : Placed) → PlacedCommutes x y over left → ⊥)
tried_square true x y t y' x' e c = ((x.0, x'), placed_square x y y' x' (rw e at c))
tried_square false x y t y' x' e h = no_placed_square x y (rw e at h)

pub tried_merge : (merges : Bool) (r n t : Placed) (n' r' : Patch) → t ≡ r → Stays t.1 r' → Stays n.1 n' →
    MatchBool merges (ListsCommute t.1.prims n.1.prims n'.prims r'.prims) ((ys xs : List Prim) → ListsCommute t.1.prims n.1.prims ys xs → ⊥) →
    MatchBool merges ((left : Placed) × PlacedMerges (undone r) n (n.0, n') left) ((over : Placed) (left : Placed) → PlacedMerges (undone r) n over left → ⊥)
tried_merge true r n t n' r' e s u c = (undone (r.0, r'), merged_square r n n' r' (rw e at s) u (rw e at c))
tried_merge false r n t n' r' e s u h = no_merged_square r n (rw e at h)

pub apart_merge : (r n : Placed) → ListsCommute r.1.prims n.1.prims n.1.prims r.1.prims → PlacedMerges (undone r) n n (undone r)
apart_merge r n c = merged_square r n n.1 r.1 (stays r.1) (stays n.1) c

pub apart_pass : (x y : Placed) → (Contains y.1.deps x.1.info → ⊥) → (Contains x.1.deps y.1.info → ⊥) → ListsCommute x.1.prims y.1.prims y.1.prims x.1.prims → PlacedCommutes x y y x
apart_pass x y n m c = placed_square x y y.1 x.1 (record { x_named = n; y_named = m; x_stays = stays x.1; y_stays = stays y.1; prims = c })

-- a row that was asked for isn't stopped
pub pass_goes : (stop : Stop) (k : ℕ) {xs : List Placed} {h h' : Placed} → stop ≡ At k → (left : List Placed) × Passes PlacedCommutes xs h h' left → StopsAt stop (PassStops PlacedCommutes xs h) → ⊥
pass_goes (At j) k e (left, g) (r, p, s) = pass_stops Placed PlacedCommutes placed_one s g
pass_goes NoMemory k e g s = absurd (cc)

same_first : {x y : Placed} → x ∷ [] ≡ y ∷ [] → x ≡ y
same_first e = cc

pub merge_goes : (stop : Stop) (k : ℕ) {skipped left xs : List Placed} {h a a' o : Placed} → stop ≡ At k → (kept : List Placed) × Passes PlacedCommutes skipped h a kept → Passes PlacedCommutes skipped h o left →
    (rest : List Placed) × MergesPast PlacedMerges xs a a' rest → StopsAt stop (MergePastStops PlacedMerges xs o) → ⊥
merge_goes (At j) k e (kept, f) p (rest, g) (r, q, s) =
    let i = same_first (rectangle_one Placed PlacedCommutes placed_one f p).0 in join_stops Placed PlacedMerges merged_one s (rw i at g)
merge_goes NoMemory k e f p g s = absurd (cc)
