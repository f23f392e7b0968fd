-- One more patch of a list that is split by marks.
use Rattle.std.proofs.Common.{◌≡◌, ℕ, zero, suc, ◌+◌, ◌<◌, ◌≤◌, List, [], ◌∷◌, ◌++◌, length, take, drop, get_or, slice_get, Some, Bool, true, false, inl, inr, refl, sym, ap, ◌∙◌, arith, add-zero, append_assoc, append-nil}
use Rattle.std.proofs.lemmas.List.{take-append-le, take-append-drop, take_all, take_more, drop_more, length-drop, length-take-le}
use Rattle.std.specs.List.{Contains}
use Rattle.std.proofs.lemmas.List.Elements.{Contains-append_right}
use Rattle.std.proofs.lemmas.Bool.{cases_lt}
use Rattle.dm_named.specs.Patches.{Patch}
use Rattle.dm_repo.specs.Staircases.{Passes, Split, stays, PassStops, SplitStops}
use Rattle.dm_repo.specs.Squares.{Placed, placed, placed_from, PlacedCommutes}
use Rattle.dm_repo.specs.Stops.{AreMarkedUpTo, AtPlaces, StopsAt, BlockedBy, blocked_at, IsMarked}
use Rattle.dm_repo.specs.declared.stop.Stop.{Stop}
use Rattle.dm_repo.specs.declared.stop.Stop.TheVariants.{At, NoMemory}
use Rattle.dm_repo.proofs.Members.{here, one_of, none_of}
use Rattle.dm_repo.proofs.RowSteps.{around}
use Rattle.dm_repo.proofs.Staircases.{split_in, split_out}

-- what a slice of a whole vector was changed to is all that the vector holds
pub whole : {X : Type 0} (xs ys : List X) (n : ℕ) → n ≡ length xs → take n (xs ++ ys) ≡ xs
whole xs ys n e = take-append-le n xs ys (omega (arith, e)) ∙ take_all n xs (omega (arith, e))

-- a list of which nothing is left was taken whole
pub all_taken : {X : Type 0} (xs ys zs : List X) → xs ≡ ys ++ zs → length zs ≡ 0 → xs ≡ ys
all_taken xs ys [] e l = e ∙ append-nil ys
all_taken xs ys (z ∷ zs) e l = absurd (omega (arith, l))

pub placed_from-append : (n : ℕ) (xs ys : List Patch) → placed_from n (xs ++ ys) ≡ placed_from n xs ++ placed_from (n + length xs) ys
placed_from-append n [] ys = ap (λ k. placed_from k ys) (sym (add-zero n))
placed_from-append n (x ∷ xs) ys =
    let e : (n + 1) + length xs ≡ n + length (x ∷ xs) = omega arith in
    ap (λ l. (n, x) ∷ l) (placed_from-append (n + 1) xs ys ∙ ap (λ k. placed_from (n + 1) xs ++ placed_from k ys) e)

-- a mark that was read
pub mark_at : (marks : List Bool) (k : ℕ) (b d : Bool) → k < length marks → get_or marks k d ≡ b → slice_get marks k ≡ Some b
mark_at [] k b d l e = absurd (omega arith)
mark_at (x ∷ xs) zero b d l e = ap Some e
mark_at (x ∷ xs) (suc k) b d l e = mark_at xs k b d (omega arith) e

-- what stops the row of the patch at a place blocks the list
pub blocks_at : (x : Placed) (Q : Placed → Type 0) (S : Placed → Placed → Type 0) (stop : Stop) → ((r : Placed) → Q r → S x r) → StopsAt stop Q → BlockedBy (blocked_at x.0 stop) (AtPlaces S)
blocks_at x Q S (At k) f (r, e, q) = (x, r, refl, e, f r q)
blocks_at x Q S NoMemory f s = tt

-- x is the first of what is left from a place on
module _ {X : Type 0} (xs : List X) (k : ℕ) (x : X) (left : List X) (e : drop k xs ≡ x ∷ left) where
  pub is_left : k < length xs
  is_left = omega (arith, ap length e, length-drop k xs)

  pub left_is : (x ≡ get_or xs k x) × (drop (k + 1) xs ≡ left)
  left_is =
      let d : get_or xs k x ∷ drop (k + 1) xs ≡ x ∷ left = sym (drop_more xs k x is_left) ∙ e in
      let a : x ≡ get_or xs k x = cc in
      let b : drop (k + 1) xs ≡ left = cc in
      (a, b)

-- where nothing is left, all was taken
pub none_left : {X : Type 0} (xs : List X) (k : ℕ) (left : List X) → drop k xs ≡ left → length left ≡ 0 → take k xs ≡ xs
none_left xs k left e l = take_all k xs (omega (arith, ap length e, length-drop k xs, l))

-- a patch at a place, with what stands before it and after it
pub placed_from_around : (first : ℕ) (xs : List Patch) (k : ℕ) (x : Patch) → k < length xs → x ≡ get_or xs k x → placed_from first xs ≡ placed_from first (take k xs) ++ placed_from (first + k) (x ∷ drop (k + 1) xs)
placed_from_around first xs k x l e =
    let n : first + length (take k xs) ≡ first + k = omega (arith, length-take-le k xs (omega (arith, l))) in
    ap (placed_from first) (around xs k x l e) ∙ placed_from-append first (take k xs) (x ∷ drop (k + 1) xs) ∙ ap (λ n. placed_from first (take k xs) ++ placed_from n (x ∷ drop (k + 1) xs)) n

pub placed_around : (xs : List Patch) (k : ℕ) (x : Patch) → k < length xs → x ≡ get_or xs k x → placed xs ≡ placed (take k xs) ++ placed_from k (x ∷ drop (k + 1) xs)
placed_around xs k x l e = let z : 0 + k ≡ k = omega arith in rw z at (placed_from_around 0 xs k x l e)

-- x is the next of them
pub placed_more : (xs : List Patch) (k : ℕ) (x : Patch) (left : List Patch) → drop k xs ≡ x ∷ left → placed (take (k + 1) xs) ≡ placed (take k xs) ++ (k, x) ∷ []
placed_more xs k x left next =
    let l = is_left xs k x left next in
    let n : 0 + length (take k xs) ≡ k = omega (arith, length-take-le k xs (omega (arith, l))) in
    ap placed (take_more xs k x l ∙ ap (λ y. take k xs ++ y ∷ []) (sym (left_is xs k x left next).0)) ∙ placed_from-append 0 (take k xs) (x ∷ []) ∙ ap (λ n. placed (take k xs) ++ placed_from n (x ∷ [])) n

-- of the patches all, those that are done were split, and x is the next
module _ (all done : List Placed) (x : Placed) (left : List Placed) (whole : all ≡ done ++ x ∷ left) (marks : List Bool) {front rest : List Placed} (places : (y : Placed) → Contains all y → y.0 < length marks)
    (so_far : Split PlacedCommutes (IsMarked marks) done front rest) (d : Bool) where
  pub is_within : x.0 < length marks
  is_within = places x (rw whole (Contains-append_right done (x ∷ left) x (here x left)))

  pub split_more_in : {h : Placed} {front' rest' : List Placed} → get_or marks x.0 d ≡ true → Passes PlacedCommutes rest x h rest' → front' ≡ front ++ h ∷ [] →
      Split PlacedCommutes (IsMarked marks) (done ++ x ∷ []) front' rest'
  split_more_in marked p f = rw f (split_in Placed PlacedCommutes (IsMarked marks) so_far (mark_at marks x.0 true d is_within marked) p)

  pub split_more_out : {rest' : List Placed} → get_or marks x.0 d ≡ false → rest' ≡ rest ++ x ∷ [] → Split PlacedCommutes (IsMarked marks) (done ++ x ∷ []) front rest'
  split_more_out marked r = rw r (split_out Placed PlacedCommutes (IsMarked marks) so_far (λ h. not_both (mark_at marks x.0 false d is_within marked) h))
    where
      not_both : slice_get marks x.0 ≡ Some false → slice_get marks x.0 ≡ Some true → ⊥
      not_both f t = let b : false ≡ true = cc in absurd (cc)

  pub split_stop : {r : Placed} → get_or marks x.0 d ≡ true → PassStops PlacedCommutes rest x r → SplitStops PlacedCommutes (IsMarked marks) all x r
  split_stop marked s = record {
    before = done;
    after = left;
    front = front;
    rest = rest;
    at = whole;
    so_far = so_far;
    in_set = mark_at marks x.0 true d is_within marked;
    stops = s;
  }

-- no place is past the marks
pub places_within : (n : ℕ) (xs : List Patch) (x : Placed) → Contains (placed_from n xs) x → x.0 < n + length xs
places_within n [] x c = absurd (none_of c)
places_within n (y ∷ ys) x c = elim (one_of (n, y) (placed_from (n + 1) ys) c) [
  | inl e ↦ rw (← e) (omega arith)
  | inr d ↦ let l = places_within (n + 1) ys x d in omega (arith, l)
]

pub placed_within : (xs : List Patch) (n : ℕ) → n ≡ length xs → (x : Placed) → Contains (placed xs) x → x.0 < n
placed_within xs n e x c = let l = places_within 0 xs x c in omega (arith, e, l)

-- the first patches stay where all of them are marked
before_split : (marks : List Bool) (n : ℕ) (xs : List Patch) {ys front rest : List Placed} → ((k : ℕ) → k < length xs → slice_get marks (n + k) ≡ Some true) → Split PlacedCommutes (IsMarked marks) ys front rest →
    Split PlacedCommutes (IsMarked marks) (placed_from n xs ++ ys) (placed_from n xs ++ front) rest
before_split marks n [] f s = s
before_split marks n (x ∷ xs) f s =
    let z : n + 0 ≡ n = add-zero n in
    stays (rw z at (f 0 (omega arith))) (before_split marks (n + 1) xs (λ k l. let e : n + suc k ≡ n + 1 + k = omega arith in rw e at (f (suc k) (omega (arith, l)))) s)

-- so the whole is split, or stopped, where the others are
module _ (marks : List Bool) (xs : List Patch) (kept : ℕ) (l : kept ≤ length xs) (marked : AreMarkedUpTo marks kept) where
  in_two : placed xs ≡ placed (take kept xs) ++ placed_from kept (drop kept xs)
  in_two =
      let n : 0 + length (take kept xs) ≡ kept = omega (arith, length-take-le kept xs l) in
      ap placed (sym (take-append-drop kept xs)) ∙ placed_from-append 0 (take kept xs) (drop kept xs) ∙ ap (λ n. placed (take kept xs) ++ placed_from n (drop kept xs)) n

  stay : {ys front rest : List Placed} → Split PlacedCommutes (IsMarked marks) ys front rest → Split PlacedCommutes (IsMarked marks) (placed (take kept xs) ++ ys) (placed (take kept xs) ++ front) rest
  stay s = before_split marks 0 (take kept xs) (λ k b. marked (0 + k) (omega (arith, b, length-take-le kept xs l))) s

  pub kept_stay : {front rest : List Placed} → Split PlacedCommutes (IsMarked marks) (placed_from kept (drop kept xs)) front rest → Split PlacedCommutes (IsMarked marks) (placed xs) (placed (take kept xs) ++ front) rest
  kept_stay s = rw in_two (stay s)

  pub kept_stop : {h r : Placed} → SplitStops PlacedCommutes (IsMarked marks) (placed_from kept (drop kept xs)) h r → SplitStops PlacedCommutes (IsMarked marks) (placed xs) h r
  kept_stop {h} s = record {
    before = placed (take kept xs) ++ s.before;
    after = s.after;
    front = placed (take kept xs) ++ s.front;
    rest = s.rest;
    at = in_two ∙ ap (λ y. placed (take kept xs) ++ y) s.at ∙ sym (append_assoc (placed (take kept xs)) s.before (h ∷ s.after));
    so_far = stay s.so_far;
    in_set = s.in_set;
    stops = s.stops;
  }

-- one more mark is set
pub marked_more : (marks : List Bool) (n : ℕ) → AreMarkedUpTo marks n → slice_get marks n ≡ Some true → AreMarkedUpTo marks (n + 1)
marked_more marks n f e k l = elim (cases_lt k n) [ inl b ↦ f k b | inr b ↦ let s : k ≡ n = omega (arith, l, b) in rw s e ]
