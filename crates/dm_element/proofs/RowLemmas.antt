-- A list past another, in queues that turn round, whatever is read of a value and whatever a cell is.
use Rattle.std.proofs.Common.{◌≡◌, ℕ, ◌+◌, ◌<◌, ◌≤◌, List, [], ◌∷◌, ◌++◌, length, map, sym, ap, ◌∙◌, refl, arith, append_assoc, append-nil, length-append}
use Rattle.std.proofs.lemmas.List.{map_push, length-map, same_from_push}
use Rattle.dm_prim.specs.Rectangles.{CellRow, none, next, Rectangle, empty, row}
use Rattle.dm_prim.proofs.RectangleLemmas.{cells_on, no_cells, no_row, no_front}

empty_of : {X : Type 0} (xs : List X) → length xs ≤ 0 → xs ≡ []
empty_of [] l = refl
empty_of (x ∷ xs) l = absurd (omega arith)

pub ends_in : {X : Type 0} (xs : List X) → 0 < length xs → (front : List X) × (x : X) × (xs ≡ front ++ x ∷ [])
ends_in [] l = absurd (omega arith)
ends_in (x ∷ []) l = ([], x, refl)
ends_in (x ∷ y ∷ xs) l = let r = ends_in (y ∷ xs) (omega arith) in (x ∷ r.0, r.1, ap (λ z. x ∷ z) r.2)

-- x past ys, a row that turns round: those that are gone stand at its end as `done`
pub record PassedSome {P : Type 0} (Cell : P → P → P → P → Type 0) (x : P) (ys queue : List P) (x1 : P) (i : ℕ) : Type 0 where
  pub gone : List P
  pub left : List P
  pub done : List P
  pub whole : ys ≡ gone ++ left
  pub queue_is : queue ≡ left ++ done
  pub passed : CellRow Cell x gone done x1
  pub count : length gone ≡ i

-- xs past ys, the last first, a queue that turns round the other way: those that are gone stand at its front as `done`
pub record CommutedSome {P : Type 0} (Cell : P → P → P → P → Type 0) (xs ys row queue : List P) (i : ℕ) : Type 0 where
  pub left : List P
  pub gone : List P
  pub done : List P
  pub whole : xs ≡ left ++ gone
  pub queue_is : queue ≡ done ++ left
  pub commuted : Rectangle Cell gone ys row done
  pub count : length gone ≡ i
  pub size : length queue ≡ length xs

module _ (P : Type 0) (Cell : P → P → P → P → Type 0) where
  pub passed_none : (x : P) (ys : List P) → PassedSome Cell x ys ys x 0
  passed_none x ys = record { gone = []; left = ys; done = []; whole = refl; queue_is = sym (append-nil ys); passed = none; count = refl }

  pub passed_all : (x : P) (ys queue : List P) (x1 : P) (i : ℕ) → length ys ≤ i → PassedSome Cell x ys queue x1 i → CellRow Cell x ys queue x1
  passed_all x ys queue x1 i l h =
      let size : length ys ≡ length h.gone + length h.left = ap length h.whole ∙ length-append h.gone h.left in
      let z : h.left ≡ [] = empty_of h.left (omega (arith, h.count, l, size)) in
      rw (h.queue_is ∙ ap (λ v. v ++ h.done) z, h.whole ∙ ap (λ v. h.gone ++ v) z ∙ append-nil h.gone) h.passed

  pub commuted_none : (xs ys line queue : List P) → line ≡ ys → queue ≡ xs → CommutedSome Cell xs ys line queue 0
  commuted_none xs ys line queue er eq = record { left = xs; gone = []; done = []; whole = sym (append-nil xs); queue_is = eq; commuted = rw er empty; count = refl; size = ap length eq }

  pub commuted_all : (xs ys line queue : List P) (i : ℕ) → length xs ≤ i → CommutedSome Cell xs ys line queue i → Rectangle Cell xs ys line queue
  commuted_all xs ys line queue i l h =
      let size : length xs ≡ length h.left + length h.gone = ap length h.whole ∙ length-append h.left h.gone in
      let z : h.left ≡ [] = empty_of h.left (omega (arith, h.count, l, size)) in
      rw (h.queue_is ∙ ap (λ v. h.done ++ v) z ∙ append-nil h.done, h.whole ∙ ap (λ v. v ++ h.gone) z) h.commuted

module _ (P X : Type 0) (Cell : P → P → P → P → Type 0) (of : X → P) (cell_one : (p q q1 p1 q2 p2 : P) → Cell p q q1 p1 → Cell p q q2 p2 → (q1 ≡ q2) × (p1 ≡ p2)) where
  pub count_of : (xs : List X) → length (map of xs) ≡ length xs
  count_of xs = length-map xs of

  module _ (x : P) (ys : List P) (i : ℕ) (old rest : List X) (p : X) (x1 : P) (l : i < length ys) (h : PassedSome Cell x ys (map of old) x1 i) (e : old ≡ p ∷ rest) where
    pub passed_more : (new : List X) (q : X) (x2 : P) → Cell x1 (of p) (of q) x2 → new ≡ rest ++ q ∷ [] → PassedSome Cell x ys (map of new) x2 (i + 1)
    passed_more new q x2 c en = go h.left h.whole h.queue_is
      where
        go : (left : List P) → ys ≡ h.gone ++ left → map of old ≡ left ++ h.done → PassedSome Cell x ys (map of new) x2 (i + 1)
        go [] w r = let k : length ys ≡ length h.gone = ap length (w ∙ append-nil h.gone) in absurd (omega (arith, h.count))
        go (y ∷ left) w r =
            let k : of p ∷ map of rest ≡ y ∷ (left ++ h.done) = sym (ap (map of) e) ∙ r in
            let kp : of p ≡ y = cc in
            let kr : map of rest ≡ left ++ h.done = cc in
            record {
              gone = h.gone ++ y ∷ [];
              left = left;
              done = h.done ++ of q ∷ [];
              whole = w ∙ sym (append_assoc h.gone (y ∷ []) left);
              queue_is = ap (map of) en ∙ map_push of rest q ∙ ap (λ z. z ++ of q ∷ []) kr ∙ append_assoc left h.done (of q ∷ []);
              passed = cells_on P Cell h.passed (next (rw kp at c) none);
              count = length-append h.gone (y ∷ []) ∙ omega (arith, h.count);
            }

    pub passed_not : ((q' p' : P) → Cell x1 (of p) q' p' → ⊥) → (ys' : List P) (x' : P) → CellRow Cell x ys ys' x' → ⊥
    passed_not n ys' x' t = go h.left h.whole h.queue_is
      where
        go : (left : List P) → ys ≡ h.gone ++ left → map of old ≡ left ++ h.done → ⊥
        go [] w r = let k : length ys ≡ length h.gone = ap length (w ∙ append-nil h.gone) in absurd (omega (arith, h.count))
        go (y ∷ left) w r =
            let k : of p ∷ map of rest ≡ y ∷ (left ++ h.done) = sym (ap (map of) e) ∙ r in
            let kp : of p ≡ y = cc in
            no_cells P Cell cell_one left h.passed (rw kp at n) (rw w at t)

  module _ (xs ys before : List P) (i : ℕ) (old rest : List X) (p : X) (l : i < length xs) (h : CommutedSome Cell xs ys before (map of old) i) (e : old ≡ rest ++ p ∷ []) where
    parts : length xs ≡ length h.left + length h.gone
    parts = ap length h.whole ∙ length-append h.left h.gone

    last_is : (front : List P) (x : P) → h.left ≡ front ++ x ∷ [] → (map of rest ≡ h.done ++ front) × (of p ≡ x)
    last_is front x k = same_from_push (map of rest) (h.done ++ front) (of p) x
        (sym (map_push of rest p) ∙ sym (ap (map of) e) ∙ h.queue_is ∙ ap (λ z. h.done ++ z) k ∙ sym (append_assoc h.done front (x ∷ [])))

    parts_are : (front : List P) (x : P) → h.left ≡ front ++ x ∷ [] → xs ≡ front ++ x ∷ h.gone
    parts_are front x k = h.whole ∙ ap (λ z. z ++ h.gone) k ∙ append_assoc front (x ∷ []) h.gone

    pub commuted_more : (new : List X) (q : X) (after : List P) → CellRow Cell (of p) before after (of q) → new ≡ q ∷ rest → CommutedSome Cell xs ys after (map of new) (i + 1)
    commuted_more new q after s en = go (ends_in h.left (omega (arith, parts, h.count, l)))
      where
        go : (front : List P) × (x : P) × (h.left ≡ front ++ x ∷ []) → CommutedSome Cell xs ys after (map of new) (i + 1)
        go (front, x, k) = let b = last_is front x k in record {
          left = front;
          gone = x ∷ h.gone;
          done = of q ∷ h.done;
          whole = parts_are front x k;
          queue_is = ap (map of) en ∙ ap (λ z. of q ∷ z) b.0;
          commuted = row h.commuted (rw b.1 at s);
          count = omega (arith, h.count);
          size = omega (arith, count_of new, ap length en, count_of old, ap length e ∙ length-append rest (p ∷ []), h.size);
        }

    pub commuted_not : ((vs : List P) (v : P) → CellRow Cell (of p) before vs v → ⊥) → (ys' xs' : List P) → Rectangle Cell xs ys ys' xs' → ⊥
    commuted_not n ys' xs' c = go (ends_in h.left (omega (arith, parts, h.count, l)))
      where
        go : (front : List P) × (x : P) × (h.left ≡ front ++ x ∷ []) → ⊥
        go (front, x, k) = let b = last_is front x k in
            no_front P Cell front (λ vs ws r. no_row P Cell cell_one h.commuted (rw b.1 at n) r) (rw (parts_are front x k) at c)
