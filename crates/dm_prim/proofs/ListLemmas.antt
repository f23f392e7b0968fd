-- Lists that are gone through one by one.
use Rattle.std.proofs.Common.{◌≡◌, ℕ, ◌+◌, ◌<◌, ◌≤◌, List, [], ◌∷◌, ◌++◌, take, drop, length, reverse, map, get_or, sym, ap, ap₂, ◌∙◌, refl, arith, append_assoc, append-nil, length-append, take-append-drop}
use Rattle.std.proofs.lemmas.List.{take_all, take_more, map_push, get_or-map, length-map, same_from_push}
use Rattle.std.proofs.lemmas.Grind.{reverse_onto}
use Rattle.dm_prim.specs.Rectangles.{CellRow, none, next, empty, row}
use Rattle.dm_prim.specs.Primitives.{Prim, Move, inv, inv_all}
use Rattle.dm_prim.specs.Commuting.{Commutes, ListsCommute}
use Rattle.dm_prim.specs.Prims.{prim_of, prims_of}
use Rattle.dm_prim.specs.declared.primitive.Primitive as code
use Rattle.dm_prim.proofs.RectangleLemmas.{cells_on, no_cells, no_row, no_front}
use Rattle.dm_prim.proofs.Single.{commutes_one}

pub count_of : {Z : Type 0} (ps : List (code.Primitive Z)) → length (prims_of ps) ≡ length ps
count_of ps = length-map ps (λ x. prim_of x)

-- any primitive, where an index is past the end
abbrev pub blank : Prim
blank = Move [] []

prim_at : {Z : Type 0} (ps : List (code.Primitive Z)) (i : ℕ) (p : code.Primitive Z) → i < length ps → p ≡ get_or ps i p → get_or (prims_of ps) i blank ≡ prim_of p
prim_at ps i p l e = get_or-map (λ x. prim_of x) ps i p blank l ∙ sym (ap (λ x. prim_of x) e)

pub prims_more : {Z : Type 0} (ps : List (code.Primitive Z)) (i : ℕ) (p : code.Primitive Z) → i < length ps → p ≡ get_or ps i p →
    take (i + 1) (prims_of ps) ≡ take i (prims_of ps) ++ prim_of p ∷ []
prims_more ps i p l e = take_more (prims_of ps) i blank (rw (count_of ps) l) ∙ ap (λ x. take i (prims_of ps) ++ x ∷ []) (prim_at ps i p l e)

-- a list is what comes before a place, the one there, and what comes after
pub parted : {Z : Type 0} (ps : List (code.Primitive Z)) (i : ℕ) (p : code.Primitive Z) → i < length ps → p ≡ get_or ps i p →
    prims_of ps ≡ take i (prims_of ps) ++ prim_of p ∷ drop (i + 1) (prims_of ps)
parted ps i p l e = sym (take-append-drop (i + 1) (prims_of ps)) ∙ ap (λ z. z ++ drop (i + 1) (prims_of ps)) (prims_more ps i p l e) ∙ append_assoc (take i (prims_of ps)) (prim_of p ∷ []) (drop (i + 1) (prims_of ps))

-- a copy
pub copied_more : {Y Z : Type 0} (ps : List (code.Primitive Y)) (qs qs' : List (code.Primitive Z)) (i : ℕ) (p : code.Primitive Y) (q : code.Primitive Z) → i < length ps → p ≡ get_or ps i p → prim_of q ≡ prim_of p → qs' ≡ qs ++ q ∷ [] →
    prims_of qs ≡ take i (prims_of ps) → prims_of qs' ≡ take (i + 1) (prims_of ps)
copied_more ps qs qs' i p q l e same new h =
    ap (λ z. prims_of z) new ∙ map_push (λ x. prim_of x) qs q ∙ ap₂ (λ a b. a ++ b ∷ []) h same ∙ sym (prims_more ps i p l e)

pub copied_all : {Y Z : Type 0} (ps : List (code.Primitive Y)) (qs : List (code.Primitive Z)) (i : ℕ) → length ps ≤ i → prims_of qs ≡ take i (prims_of ps) → prims_of qs ≡ prims_of ps
copied_all ps qs i l h = h ∙ take_all i (prims_of ps) (rw (count_of ps) l)

empty_of : (xs : List Prim) → length xs ≤ 0 → xs ≡ []
empty_of [] l = refl
empty_of (x ∷ xs) l = absurd (omega arith)

-- a queue that turns round, each inverted: those that are gone stand inverted at its end
pub record InvertedSome (xs queue : List Prim) (i : ℕ) : Type 0 where
  pub gone : List Prim
  pub left : List Prim
  pub whole : xs ≡ gone ++ left
  pub queue_is : queue ≡ left ++ map inv gone
  pub count : length gone ≡ i

pub inverted_none : (xs queue : List Prim) → queue ≡ xs → InvertedSome xs queue 0
inverted_none xs queue e = record { gone = []; left = xs; whole = refl; queue_is = e ∙ sym (append-nil xs); count = refl }

pub inverted_more : {Z : Type 0} (xs : List Prim) (i : ℕ) (old rest new : List (code.Primitive Z)) (p q : code.Primitive Z) → i < length xs → InvertedSome xs (prims_of old) i →
    old ≡ p ∷ rest → prim_of q ≡ inv (prim_of p) → new ≡ rest ++ q ∷ [] → InvertedSome xs (prims_of new) (i + 1)
inverted_more xs i old rest new p q l h e eq en = go h.left h.whole h.queue_is
  where
    go : (left : List Prim) → xs ≡ h.gone ++ left → prims_of old ≡ left ++ map inv h.gone → InvertedSome xs (prims_of new) (i + 1)
    go [] w r = let k : length xs ≡ length h.gone = ap length (w ∙ append-nil h.gone) in absurd (omega (arith, h.count))
    go (x ∷ left) w r =
        let k : prim_of p ∷ prims_of rest ≡ x ∷ (left ++ map inv h.gone) = sym (ap (λ z. prims_of z) e) ∙ r in
        let kp : prim_of p ≡ x = cc in
        let kr : prims_of rest ≡ left ++ map inv h.gone = cc in
        record {
          gone = h.gone ++ x ∷ [];
          left = left;
          whole = w ∙ sym (append_assoc h.gone (x ∷ []) left);
          queue_is = ap (λ z. prims_of z) en ∙ map_push (λ v. prim_of v) rest q ∙ ap₂ (λ a b. a ++ b ∷ []) kr (eq ∙ ap (λ v. inv v) kp) ∙ append_assoc left (map inv h.gone) (inv x ∷ []) ∙ ap (λ z. left ++ z) (sym (map_push (λ v. inv v) h.gone x));
          count = length-append h.gone (x ∷ []) ∙ omega (arith, h.count);
        }

-- the queue is as long as the list
pub inverted_count : (xs queue : List Prim) (i : ℕ) → InvertedSome xs queue i → length queue ≡ length xs
inverted_count xs queue i h = omega (arith, ap length h.whole, ap length h.queue_is, length-append h.gone h.left, length-append h.left (map inv h.gone), length-map h.gone inv)

pub inverted_all : (xs queue : List Prim) (i : ℕ) → length xs ≤ i → InvertedSome xs queue i → queue ≡ map inv xs
inverted_all xs queue i l h =
    let size : length xs ≡ length h.gone + length h.left = ap length h.whole ∙ length-append h.gone h.left in
    let z : h.left ≡ [] = empty_of h.left (omega (arith, h.count, l, size)) in
    h.queue_is ∙ ap (λ v. v ++ map inv h.gone) z ∙ ap (λ v. map inv v) (sym (h.whole ∙ ap (λ v. h.gone ++ v) z ∙ append-nil h.gone))

inv_all_reverse : (xs : List Prim) → reverse (map inv xs) ≡ inv_all xs
inv_all_reverse [] = refl
inv_all_reverse (x ∷ xs) = reverse_onto (map inv xs) (inv x) [] ∙ ap (λ z. z ++ inv x ∷ []) (inv_all_reverse xs)

map-reverse : {Z : Type 0} (ps : List (code.Primitive Z)) → prims_of (reverse ps) ≡ reverse (prims_of ps)
map-reverse [] = refl
map-reverse (p ∷ ps) = ap (λ x. prims_of x) (reverse_onto ps p []) ∙ map_push (λ v. prim_of v) (reverse ps) p ∙ ap (λ x. x ++ prim_of p ∷ []) (map-reverse ps) ∙ sym (reverse_onto (prims_of ps) (prim_of p) [])

pub reversed : {Z : Type 0} (xs : List Prim) (old new : List (code.Primitive Z)) → new ≡ reverse old → prims_of old ≡ map inv xs → prims_of new ≡ inv_all xs
reversed xs old new en h = ap (λ z. prims_of z) en ∙ map-reverse old ∙ ap (λ z. reverse z) h ∙ inv_all_reverse xs

-- x past ys, a row that turns round: those that are gone stand at its end as `done`
pub record PassedSome (x : Prim) (ys queue : List Prim) (x1 : Prim) (i : ℕ) : Type 0 where
  pub gone : List Prim
  pub left : List Prim
  pub done : List Prim
  pub whole : ys ≡ gone ++ left
  pub queue_is : queue ≡ left ++ done
  pub passed : CellRow Commutes x gone done x1
  pub count : length gone ≡ i

pub passed_none : (x : Prim) (ys : List Prim) → PassedSome x ys ys x 0
passed_none x ys = record { gone = []; left = ys; done = []; whole = refl; queue_is = sym (append-nil ys); passed = none; count = refl }

module _ {Z : Type 0} (x : Prim) (ys : List Prim) (i : ℕ) (old rest : List (code.Primitive Z)) (p : code.Primitive Z) (x1 : Prim) (l : i < length ys) (h : PassedSome x ys (prims_of old) x1 i) (e : old ≡ p ∷ rest) where
  pub passed_more : (new : List (code.Primitive Z)) (q : code.Primitive Z) (x2 : Prim) → Commutes x1 (prim_of p) (prim_of q) x2 → new ≡ rest ++ q ∷ [] → PassedSome x ys (prims_of new) x2 (i + 1)
  passed_more new q x2 c en = go h.left h.whole h.queue_is
    where
      go : (left : List Prim) → ys ≡ h.gone ++ left → prims_of old ≡ left ++ h.done → PassedSome x ys (prims_of new) x2 (i + 1)
      go [] w r = let k : length ys ≡ length h.gone = ap length (w ∙ append-nil h.gone) in absurd (omega (arith, h.count))
      go (y ∷ left) w r =
          let k : prim_of p ∷ prims_of rest ≡ y ∷ (left ++ h.done) = sym (ap (λ z. prims_of z) e) ∙ r in
          let kp : prim_of p ≡ y = cc in
          let kr : prims_of rest ≡ left ++ h.done = cc in
          record {
            gone = h.gone ++ y ∷ [];
            left = left;
            done = h.done ++ prim_of q ∷ [];
            whole = w ∙ sym (append_assoc h.gone (y ∷ []) left);
            queue_is = ap (λ z. prims_of z) en ∙ map_push (λ v. prim_of v) rest q ∙ ap (λ z. z ++ prim_of q ∷ []) kr ∙ append_assoc left h.done (prim_of q ∷ []);
            passed = cells_on Prim Commutes h.passed (next (rw kp at c) none);
            count = length-append h.gone (y ∷ []) ∙ omega (arith, h.count);
          }

  pub passed_not : ((q' p' : Prim) → Commutes x1 (prim_of p) q' p' → ⊥) → (ys' : List Prim) (x' : Prim) → CellRow Commutes x ys ys' x' → ⊥
  passed_not n ys' x' t = go h.left h.whole h.queue_is
    where
      go : (left : List Prim) → ys ≡ h.gone ++ left → prims_of old ≡ left ++ h.done → ⊥
      go [] w r = let k : length ys ≡ length h.gone = ap length (w ∙ append-nil h.gone) in absurd (omega (arith, h.count))
      go (y ∷ left) w r =
          let k : prim_of p ∷ prims_of rest ≡ y ∷ (left ++ h.done) = sym (ap (λ z. prims_of z) e) ∙ r in
          let kp : prim_of p ≡ y = cc in
          no_cells Prim Commutes commutes_one left h.passed (rw kp at n) (rw w at t)

pub passed_all : (x : Prim) (ys queue : List Prim) (x1 : Prim) (i : ℕ) → length ys ≤ i → PassedSome x ys queue x1 i → CellRow Commutes x ys queue x1
passed_all x ys queue x1 i l h =
    let size : length ys ≡ length h.gone + length h.left = ap length h.whole ∙ length-append h.gone h.left in
    let z : h.left ≡ [] = empty_of h.left (omega (arith, h.count, l, size)) in
    rw (h.queue_is ∙ ap (λ v. v ++ h.done) z, h.whole ∙ ap (λ v. h.gone ++ v) z ∙ append-nil h.gone) h.passed

-- xs past ys, the last first, a queue that turns round the other way: those that are gone stand at its front as `done`
pub record CommutedSome (xs ys row queue : List Prim) (i : ℕ) : Type 0 where
  pub left : List Prim
  pub gone : List Prim
  pub done : List Prim
  pub whole : xs ≡ left ++ gone
  pub queue_is : queue ≡ done ++ left
  pub commuted : ListsCommute gone ys row done
  pub count : length gone ≡ i
  pub size : length queue ≡ length xs

pub commuted_none : (xs ys line queue : List Prim) → line ≡ ys → queue ≡ xs → CommutedSome xs ys line queue 0
commuted_none xs ys line queue er eq = record { left = xs; gone = []; done = []; whole = sym (append-nil xs); queue_is = eq; commuted = rw er empty; count = refl; size = ap length eq }

ends_in : (xs : List Prim) → 0 < length xs → (front : List Prim) × (x : Prim) × (xs ≡ front ++ x ∷ [])
ends_in [] l = absurd (omega arith)
ends_in (x ∷ []) l = ([], x, refl)
ends_in (x ∷ y ∷ xs) l = let r = ends_in (y ∷ xs) (omega arith) in (x ∷ r.0, r.1, ap (λ z. x ∷ z) r.2)

module _ {Z : Type 0} (xs ys before : List Prim) (i : ℕ) (old rest : List (code.Primitive Z)) (p : code.Primitive Z) (l : i < length xs) (h : CommutedSome xs ys before (prims_of old) i) (e : old ≡ rest ++ p ∷ []) where
  parts : length xs ≡ length h.left + length h.gone
  parts = ap length h.whole ∙ length-append h.left h.gone

  last_is : (front : List Prim) (x : Prim) → h.left ≡ front ++ x ∷ [] → (prims_of rest ≡ h.done ++ front) × (prim_of p ≡ x)
  last_is front x k = same_from_push (prims_of rest) (h.done ++ front) (prim_of p) x
      (sym (map_push (λ v. prim_of v) rest p) ∙ sym (ap (λ z. prims_of z) e) ∙ h.queue_is ∙ ap (λ z. h.done ++ z) k ∙ sym (append_assoc h.done front (x ∷ [])))

  parts_are : (front : List Prim) (x : Prim) → h.left ≡ front ++ x ∷ [] → xs ≡ front ++ x ∷ h.gone
  parts_are front x k = h.whole ∙ ap (λ z. z ++ h.gone) k ∙ append_assoc front (x ∷ []) h.gone

  pub commuted_more : (new : List (code.Primitive Z)) (q : code.Primitive Z) (after : List Prim) → CellRow Commutes (prim_of p) before after (prim_of q) → new ≡ q ∷ rest → CommutedSome xs ys after (prims_of new) (i + 1)
  commuted_more new q after s en = go (ends_in h.left (omega (arith, parts, h.count, l)))
    where
      go : (front : List Prim) × (x : Prim) × (h.left ≡ front ++ x ∷ []) → CommutedSome xs ys after (prims_of new) (i + 1)
      go (front, x, k) = let b = last_is front x k in record {
        left = front;
        gone = x ∷ h.gone;
        done = prim_of q ∷ h.done;
        whole = parts_are front x k;
        queue_is = ap (λ z. prims_of z) en ∙ ap (λ z. prim_of q ∷ z) b.0;
        commuted = row h.commuted (rw b.1 at s);
        count = omega (arith, h.count);
        size = omega (arith, count_of new, ap length en, count_of old, ap length e ∙ length-append rest (p ∷ []), h.size);
      }

  pub commuted_not : ((vs : List Prim) (v : Prim) → CellRow Commutes (prim_of p) before vs v → ⊥) → (ys' xs' : List Prim) → ListsCommute xs ys ys' xs' → ⊥
  commuted_not n ys' xs' c = go (ends_in h.left (omega (arith, parts, h.count, l)))
    where
      go : (front : List Prim) × (x : Prim) × (h.left ≡ front ++ x ∷ []) → ⊥
      go (front, x, k) = let b = last_is front x k in
          no_front Prim Commutes front (λ vs ws r. no_row Prim Commutes commutes_one h.commuted (rw b.1 at n) r) (rw (parts_are front x k) at c)

pub commuted_all : (xs ys line queue : List Prim) (i : ℕ) → length xs ≤ i → CommutedSome xs ys line queue i → ListsCommute xs ys line queue
commuted_all xs ys line queue i l h =
    let size : length xs ≡ length h.left + length h.gone = ap length h.whole ∙ length-append h.left h.gone in
    let z : h.left ≡ [] = empty_of h.left (omega (arith, h.count, l, size)) in
    rw (h.queue_is ∙ ap (λ v. h.done ++ v) z ∙ append-nil h.done, h.whole ∙ ap (λ v. v ++ h.gone) z) h.commuted
