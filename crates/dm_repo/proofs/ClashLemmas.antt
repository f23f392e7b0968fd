-- Two primitives that can't pass each other: the places of a loop that finds them, and that their patches are those of the refusal.
use Rattle.std.proofs.Common.{◌≡◌, ℕ, ◌+◌, ◌-◌, ◌<◌, ◌≤◌, List, [], ◌∷◌, length, map, take, drop, get_or, set, Option, Some, None, refl, sym, ap, ◌∙◌, arith, append_assoc}
use Rattle.std.specs.Prelude.{IfNone, IfSome, MatchOption}
use Rattle.std.proofs.lemmas.List.{take_more, take_more_set, map_push, map-append, drop_more, drop-set-lt, length-append, length-drop, length-map, length-take-le}
use Rattle.dm_prim.specs.Primitives.{Prim, inv, inv_all}
use Rattle.dm_prim.specs.Rectangles.{CellRow, none, next, Rectangle, row}
use Rattle.dm_prim.specs.Commuting.{Commutes}
use Rattle.dm_prim.proofs.Ends.{inv_inv}
use Rattle.dm_prim.proofs.RectangleLemmas.{cells_on, no_cells, no_row, no_front}
use Rattle.dm_prim.proofs.Single.{commutes_one}
use Rattle.dm_named.specs.Patches.{Patch}
use Rattle.dm_bundle.specs.Bundles.{Contents}
use Rattle.dm_repo.specs.declared.clash.Clash.{Clash}
use Rattle.dm_repo.specs.declared.policy.Policy.{Policy}
use Rattle.dm_repo.specs.declared.policy.Policy.TheVariants.{Refuse, Skip}
use Rattle.dm_repo.specs.declared.refusal.Refusal.TheVariants.{Conflicts}
use Rattle.dm_repo.specs.Clashes.{RowStops, RectangleStops, PrimsClash, ClashesPast, Clashes, IsClash}
use Rattle.dm_repo.specs.Merging.{MergeRectangle, MergesPast, MergeStops}
use Rattle.dm_repo.specs.Sifting.{ConflictsUnder}
use Rattle.dm_repo.specs.Squares.{Merges, Placed, PlacedCommutes, PlacedMerges, undone}
use Rattle.dm_repo.specs.Weighing.{Fits, IsCommon, IsHeld, IsNothingNew, RefusesBundle}
use Rattle.dm_repo.proofs.Firsts.{merge_stops_one}
use Rattle.dm_repo.proofs.Inverses.{inv_all-append, inv_all-inv_all}
use Rattle.dm_repo.proofs.Placed.{merged_one, placed_one}
use Rattle.dm_repo.proofs.RowSteps.{around, same_at}
use Rattle.dm_repo.proofs.Staircases.{merge_narrow, merge_stops, split_one}

-- where a row or a rectangle is stopped, there is none
module _ {P : Type 0} (Cell : P → P → P → P → Type 0) (cell_one : (p q q1 p1 q2 p2 : P) → Cell p q q1 p1 → Cell p q q2 p2 → (q1 ≡ q2) × (p1 ≡ p2)) where
  row_stuck : {x v : P} {ys vs : List P} {place : ℕ} → RowStops Cell x ys place → CellRow Cell x ys vs v → ⊥
  row_stuck s c = no_cells P Cell cell_one s.after s.passed s.stuck (rw s.at at c)

  pub rectangle_stuck : {xs ys vs ws : List P} {count place : ℕ} → RectangleStops Cell xs ys count place → Rectangle Cell xs ys vs ws → ⊥
  rectangle_stuck s g = no_front P Cell s.before (λ vs ws h. no_row P Cell cell_one s.passed (λ us v c. row_stuck s.stops c) h) (rw s.at at g)

-- one more of a row and of a rectangle that are kept in slices
module _ {X P : Type 0} (m : X → P) (Cell : P → P → P → P → Type 0) where
  pub row_step : (xs ys : List X) (k : ℕ) (d y : X) {x0 x x' : P} → k < length xs → length ys ≡ length xs → drop k ys ≡ drop k xs →
      CellRow Cell x0 (map m (take k xs)) (map m (take k ys)) x → Cell x (m (get_or ys k d)) (m y) x' →
      CellRow Cell x0 (map m (take (k + 1) xs)) (map m (take (k + 1) (set ys k y))) x' × (drop (k + 1) (set ys k y) ≡ drop (k + 1) xs)
  row_step xs ys k d y i j e g c =
      let s = same_at xs ys k d i j e in (
        rw (take_more xs k d i, take_more_set ys k y (omega arith), map_push m (take k xs) (get_or xs k d), map_push m (take k ys) y, ← s.0) (cells_on P Cell g (next c none)),
        drop-set-lt (k + 1) ys k y (omega arith) ∙ s.1,
      )

  pub row_stop : (xs ys : List X) (k : ℕ) (d : X) {x0 x : P} → k < length xs → length ys ≡ length xs → drop k ys ≡ drop k xs → d ≡ get_or ys k d →
      CellRow Cell x0 (map m (take k xs)) (map m (take k ys)) x → ((y' x' : P) → Cell x (m d) y' x' → ⊥) → RowStops Cell x0 (map m xs) k
  row_stop xs ys k d {x} i j e h g c =
      let f = h ∙ (same_at xs ys k d i j e).0 in
      record {
        before = map m (take k xs);
        y = m d;
        after = map m (drop (k + 1) xs);
        before' = map m (take k ys);
        x1 = x;
        at = ap (map m) (around xs k d i f) ∙ map-append m (take k xs) (d ∷ drop (k + 1) xs);
        is_place = sym (length-map (take k xs) m ∙ length-take-le k xs (omega (arith, i)));
        passed = g;
        stuck = c;
      }

  -- a loop that counts down from j reads at j - 1
  pub rectangle_step : (xs : List X) (j : ℕ) (d : X) {ys between ys' after' : List P} {x' : P} → 0 < j → j ≤ length xs → d ≡ get_or xs (j - 1) d →
      Rectangle Cell (map m (drop j xs)) ys between after' → CellRow Cell (m d) between ys' x' → Rectangle Cell (map m (drop (j - 1) xs)) ys ys' (x' ∷ after')
  rectangle_step xs j d o i e g c =
      let k : j ≡ (j - 1) + 1 = omega arith in
      rw (drop_more xs (j - 1) d (omega arith), ← e) (row (rw k at g) c)

  pub rectangle_stop : (xs : List X) (j : ℕ) (d : X) {ys between after' : List P} {count place : ℕ} → 0 < j → j ≤ length xs → d ≡ get_or xs (j - 1) d → count + j ≡ length xs →
      Rectangle Cell (map m (drop j xs)) ys between after' → RowStops Cell (m d) between place → RectangleStops Cell (map m xs) ys count place
  rectangle_stop xs j d {between} {after'} o i e n g s =
      let k : j ≡ (j - 1) + 1 = omega arith in
      record {
        before = map m (take (j - 1) xs);
        x = m d;
        after = map m (drop ((j - 1) + 1) xs);
        ys' = between;
        after' = after';
        at = ap (map m) (around xs (j - 1) d (omega arith) e) ∙ map-append m (take (j - 1) xs) (d ∷ drop ((j - 1) + 1) xs);
        is_count = omega (arith, n, o, length-map (drop ((j - 1) + 1) xs) m, length-drop ((j - 1) + 1) xs);
        passed = rw k at g;
        stops = s;
      }

count_inv : (ps : List Prim) → length (inv_all ps) ≡ length ps
count_inv [] = refl
count_inv (p ∷ ps) = omega (arith, length-append (inv_all ps) (inv p ∷ []), count_inv ps)

-- what stops the inverse of a list, told of the list
module _ (r n : Patch) {held new : ℕ} where
  prims_clash : RectangleStops Commutes (inv_all r.prims) n.prims held new → PrimsClash r n held new
  prims_clash s = record {
    first = inv_all s.after;
    prim = inv s.x;
    others = inv_all s.before;
    n' = s.ys';
    first' = s.after';
    at = sym (inv_all-inv_all r.prims) ∙ ap inv_all s.at ∙ inv_all-append s.before (s.x ∷ s.after) ∙ append_assoc (inv_all s.after) (inv s.x ∷ []) (inv_all s.before);
    is_place = s.is_count ∙ sym (count_inv s.after);
    passed = rw (inv_all-inv_all s.after) s.passed;
    stops = rw (inv_inv s.x) s.stops;
  }

  inverse_stops : PrimsClash r n held new → RectangleStops Commutes (inv_all r.prims) n.prims held new
  inverse_stops s = record {
    before = inv_all s.others;
    x = inv s.prim;
    after = inv_all s.first;
    ys' = s.n';
    after' = s.first';
    at = ap inv_all s.at ∙ inv_all-append s.first (s.prim ∷ s.others) ∙ append_assoc (inv_all s.others) (inv s.prim ∷ []) (inv_all s.first);
    is_count = s.is_place ∙ sym (count_inv s.first);
    passed = s.passed;
    stops = s.stops;
  }

  no_merge : PrimsClash r n held new → (n' r' : Patch) → Merges r n n' r' → ⊥
  no_merge s n' r' m = rectangle_stuck Commutes commutes_one (inverse_stops s) m.prims

pub undone_clash : (x n : Placed) {held new : ℕ} → RectangleStops Commutes x.1.prims n.1.prims held new → PrimsClash (undone x).1 n.1 held new
undone_clash x n s = prims_clash (undone x).1 n.1 (rw (inv_all-inv_all x.1.prims) s)

-- one more of a merge that is kept in slices
pub past_clash : (xs ys : List Placed) (k : ℕ) (d : Placed) {n0 n : Placed} (c : Clash) → k < length xs → length ys ≡ length xs → drop k ys ≡ drop k xs → d ≡ get_or ys k d →
    MergesPast PlacedMerges (map undone (take k xs)) n0 n (map undone (take k ys)) → c.place ≡ n0.0 → c.held ≡ d.0 → PrimsClash (undone d).1 n.1 c.held_prim c.prim →
    ClashesPast (map undone xs) n0 c
past_clash xs ys k d {n} c i j e h g p q s = record {
  near = map undone (take k xs);
  r = undone d;
  far = map undone (drop (k + 1) xs);
  near' = map undone (take k ys);
  n1 = n;
  at = ap (map undone) (around xs k d i (h ∙ (same_at xs ys k d i j e).0)) ∙ map-append undone (take k xs) (d ∷ drop (k + 1) xs);
  joined = g;
  is_place = p;
  is_held = q;
  prims = s;
}

pub merge_clash : (xs ys : List Placed) (k : ℕ) (x : Placed) {rest rest1 : List Placed} (c : Clash) → k < length xs → length ys ≡ length xs → drop k ys ≡ drop k xs → x ≡ get_or ys k x →
    MergeRectangle PlacedMerges rest (take k xs) (take k ys) rest1 → ClashesPast rest1 x c → Clashes rest xs c
merge_clash xs ys k x {rest1} c i j e h g s = record {
  before = take k xs;
  n = x;
  after = drop (k + 1) xs;
  before' = take k ys;
  rest1 = rest1;
  at = around xs k x i (h ∙ (same_at xs ys k x i j e).0);
  so_far = g;
  clash = s;
}

-- the patches of a clash stop the merge
clash_stops : {rest new : List Placed} {c : Clash} (s : Clashes rest new c) → MergeStops PlacedMerges rest new s.n s.clash.r
clash_stops s = record {
  before = s.before;
  after = s.after;
  before' = s.before';
  rest1 = s.rest1;
  at = s.at;
  so_far = s.so_far;
  stops = record {
    near = s.clash.near;
    near' = s.clash.near';
    far = s.clash.far;
    n1 = s.clash.n1;
    at = s.clash.at;
    joined = s.clash.joined;
    stuck = λ n' r' m. no_merge s.clash.r.1 s.clash.n1.1 s.clash.prims n'.1 r'.1 m.merges;
  };
}

-- whatever the policy, a conflict stops the merge
conflict_stops : (policy : Policy) {rest new : List Placed} {n r : Placed} → ConflictsUnder policy rest new n r → MergeStops PlacedMerges rest new n r
conflict_stops Refuse s = s
conflict_stops Skip {rest} (after, skipped, e, s, f) = record { before = []; after = after; before' = []; rest1 = rest; at = e; so_far = merge_narrow Placed PlacedMerges rest; stops = s }

module _ (repo : List Patch) (b : Contents) where
  -- the steps before the merge have one answer
  pub fits_one : {rest new rest1 new1 : List Placed} → Fits repo b rest new → Fits repo b rest1 new1 → (rest ≡ rest1) × (new ≡ new1)
  fits_one f g =
      let s = f.bundle_split in
      let t = g.bundle_split in (
        (split_one Placed PlacedCommutes placed_one (IsCommon repo b) refl s.repo_split.split t.repo_split.split).1,
        (split_one Placed PlacedCommutes placed_one (IsHeld repo) refl s.split t.split).1,
      )

  pub nothing_conflicts : IsNothingNew repo b → (policy : Policy) (n h : ℕ) → RefusesBundle repo b policy (Conflicts n h) → ⊥
  nothing_conflicts nothing policy n h (rest, new, f, s) = f.bundle_split.repo_split.prerequisites.is_new nothing.all_held

  clash_refuses : (c : Clash) → IsClash repo b c → RefusesBundle repo b Refuse (Conflicts c.place c.held)
  clash_refuses c i = (i.rest, i.new, i.fits, (i.clash.n, i.clash.clash.r, i.clash.clash.is_place, i.clash.clash.is_held, clash_stops i.clash))

  clash_only : (c : Clash) → IsClash repo b c → (policy : Policy) (n h : ℕ) → RefusesBundle repo b policy (Conflicts n h) → (n ≡ c.place) × (h ≡ c.held)
  clash_only c i policy n h (rest, new, f, (x, y, p, q, s)) =
      let e = fits_one i.fits f in
      let t : MergeStops PlacedMerges i.rest i.new x y = rw (e.0, e.1) (conflict_stops policy s) in
      let w = merge_stops_one Placed PlacedMerges merged_one t (clash_stops i.clash) in
      (p ∙ ap (λ (z : Placed). z.0) w.0 ∙ sym i.clash.clash.is_place, q ∙ ap (λ (z : Placed). z.0) w.1 ∙ sym i.clash.clash.is_held)

  merged_none : {rest new new' rest' : List Placed} → Fits repo b rest new → MergeRectangle PlacedMerges rest new new' rest' → (policy : Policy) (n h : ℕ) → RefusesBundle repo b policy (Conflicts n h) → ⊥
  merged_none {rest} {new} {rest'} fits g policy n h (rest1, new1, f, (x, y, p, q, s)) =
      let e = fits_one fits f in
      let t : MergeStops PlacedMerges rest new x y = rw (e.0, e.1) (conflict_stops policy s) in
      merge_stops Placed PlacedMerges merged_one t (rest', g)

  -- what is found as patches that fit are merged
  module _ (rest new new' rest' : List Placed) (fits : Fits repo b rest new) where
    abbrev Finds : Option Clash → Type 0
    Finds found = MatchOption found (MergeRectangle PlacedMerges rest new new' rest') (Clashes rest new)

    pub found_told : (found : Option Clash) → Finds found → IfSome found (IsClash repo b)
    found_told None f = tt
    found_told (Some c) f = record { rest = rest; new = new; fits = fits; clash = f }

    pub found_refuses : (found : Option Clash) → Finds found → IfSome found (λ c. RefusesBundle repo b Refuse (Conflicts c.place c.held))
    found_refuses None f = tt
    found_refuses (Some c) f = clash_refuses c (found_told (Some c) f)

    pub found_only : (found : Option Clash) → Finds found → IfSome found (λ c. (policy : Policy) (n h : ℕ) → RefusesBundle repo b policy (Conflicts n h) → (n ≡ c.place) × (h ≡ c.held))
    found_only None f = tt
    found_only (Some c) f = clash_only c (found_told (Some c) f)

    pub none_conflict : (found : Option Clash) → Finds found → IfNone found ((policy : Policy) (n h : ℕ) → RefusesBundle repo b policy (Conflicts n h) → ⊥)
    none_conflict None f = merged_none fits f
    none_conflict (Some c) f = tt
