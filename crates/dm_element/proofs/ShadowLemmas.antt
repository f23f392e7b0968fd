-- Shadows that pass a list, and shadows that merge.
use Rattle.std.proofs.Common.{◌≡◌, ℕ, suc, ◌+◌, ◌<◌, ◌≤◌, List, [], ◌∷◌, ◌++◌, Vec, length, map, get_or, All, Any, ◌⊎◌, inl, inr, ap, ap₂, sym, refl, ◌∙◌, append-nil, arith}
use borrow.Author.Count.{below_more}
use Rattle.std.proofs.lemmas.List.{map_push, map-append, get_or-map}
use Rattle.dm_prim.specs.Rectangles.{CellRow, Rectangle, empty, row}
use Rattle.dm_prim.specs.Rectangles as rectangles
use Rattle.dm_prim.specs.Primitives.{Prim, inv_all}
use Rattle.dm_prim.specs.Commuting.{Commutes, ListsCommute}
use Rattle.dm_prim.specs.Prims.{prims_of}
use Rattle.dm_prim.specs.declared.primitive.Primitive.{Primitive}
use Rattle.dm_prim.proofs.LawProofs.{lists_past_inverse, rectangles_turn, inv_all-inv_all}
use Rattle.dm_prim.proofs.Single.{lists_one}
use Rattle.dm_element.specs.Laws.{MergingTurns}
use Rattle.dm_element.specs.Lists.{lists_of}
use Rattle.dm_element.proofs.CopyLemmas.{count}
use Rattle.dm_element.specs.Elements.{Passes, EachPasses, none, next, Merge, EachMerges}

passes_back : {xs m m' : List Prim} → Passes xs m m' → Passes (inv_all xs) m' m
passes_back {xs} {m} {m'} h = record { passed = inv_all h.passed; commute = lists_past_inverse xs m m' h.passed h.commute }

-- what passed a list passes back by its inverse
pub each_passes_back : {xs : List Prim} {ms ms' : List (List Prim)} → EachPasses xs ms ms' → EachPasses (inv_all xs) ms' ms
each_passes_back none = none
each_passes_back (next h r) = next (passes_back h) (each_passes_back r)

passes_one : {xs m m1 m2 : List Prim} → Passes xs m m1 → Passes xs m m2 → m1 ≡ m2
passes_one h k = (lists_one h.commute k.commute).0

pub each_passes_one : {xs : List Prim} {ms ms1 ms2 : List (List Prim)} → EachPasses xs ms ms1 → EachPasses xs ms ms2 → ms1 ≡ ms2
each_passes_one none none = refl
each_passes_one (next h r) (next k s) = ap₂ (λ a b. a ∷ b) (passes_one h k) (each_passes_one r s)

-- two lists merge either way
merge_turn : {m k : List Prim} → Merge m k → Merge k m
merge_turn {m} {k} h =
    let c : ListsCommute (inv_all m) k h.second (inv_all (inv_all h.first)) = rw (inv_all-inv_all h.first) h.commute in
    record { second = inv_all h.first; first = inv_all h.second; commute = rectangles_turn m k h.second (inv_all h.first) c }

pub merges_turn : MergingTurns
merges_turn m k h = merge_turn h

pub each_merges_turn : (ms ks : List (List Prim)) → EachMerges ms ks → EachMerges ks ms
each_merges_turn ms ks h j d l i c n = merge_turn (h i c n j d l)

pub neither : {X Y : Type 0} → (X → ⊥) → (Y → ⊥) → X ⊎ Y → ⊥
neither n k (inl x) = n x
neither n k (inr y) = k y

-- lists that commute keep their lengths
row_length : {x x' : Prim} {ys ys' : List Prim} → CellRow Commutes x ys ys' x' → length ys' ≡ length ys
row_length rectangles.none = refl
row_length (rectangles.next c s) = ap (λ n. suc n) (row_length s)

pub rectangle_lengths : {xs ys ys' xs' : List Prim} → ListsCommute xs ys ys' xs' → (length ys' ≡ length ys) × (length xs' ≡ length xs)
rectangle_lengths empty = (refl, refl)
rectangle_lengths (row g s) = let h = rectangle_lengths g in (row_length s ∙ h.0, ap (λ n. suc n) h.1)

pub each_passes_lengths : {xs : List Prim} {ms ms' : List (List Prim)} → EachPasses xs ms ms' → map length ms' ≡ map length ms
each_passes_lengths none = refl
each_passes_lengths (next h r) = ap₂ (λ a b. a ∷ b) (rectangle_lengths h.commute).0 (each_passes_lengths r)

-- a loop over the shadows: those that are gone have passed
each_passes_push : {xs m m' : List Prim} {ms ms' : List (List Prim)} → EachPasses xs ms ms' → Passes xs m m' → EachPasses xs (ms ++ m ∷ []) (ms' ++ m' ∷ [])
each_passes_push none p = next p none
each_passes_push (next h r) p = next h (each_passes_push r p)

passes_within : {xs m : List Prim} (front rest : List (List Prim)) {ms' : List (List Prim)} → EachPasses xs (front ++ m ∷ rest) ms' → (m' : List Prim) × Passes xs m m'
passes_within [] rest (next {m' = m'} h r) = (m', h)
passes_within (l ∷ front) rest (next h r) = passes_within front rest r

module _ {Z Y : Type 0} (all gone : List (Vec (Primitive Z) Y)) where
  module _ (l : Vec (Primitive Z) Y) where
    pub passed_more : (xs : List Prim) (ts ts' : List (Vec (Primitive Z) Y)) (t rest : Vec (Primitive Z) Y) → ListsCommute xs (prims_of l.items) (prims_of t.items) (prims_of rest.items) →
        ts' ≡ ts ++ t ∷ [] → EachPasses xs (lists_of gone) (lists_of ts) → EachPasses xs (lists_of (gone ++ l ∷ [])) (lists_of ts')
    passed_more xs ts ts' t rest c e h =
        let p : Passes xs (prims_of l.items) (prims_of t.items) = record { passed = prims_of rest.items; commute = c } in
        let read : Vec (Primitive Z) Y → List Prim = λ v. prims_of v.items in
        rw (e, map_push read ts t, map_push read gone l) (each_passes_push h p)

    pub passed_not : (xs : List Prim) (left : List (Vec (Primitive Z) Y)) → all ≡ gone ++ l ∷ left → ((ys' xs' : List Prim) → ListsCommute xs (prims_of l.items) ys' xs' → ⊥) →
        (ms' : List (List Prim)) → EachPasses xs (lists_of all) ms' → ⊥
    passed_not xs left w n ms' h =
        let read : Vec (Primitive Z) Y → List Prim = λ v. prims_of v.items in
        let parts : lists_of all ≡ lists_of gone ++ prims_of l.items ∷ lists_of left = ap (map read) w ∙ map-append read gone (l ∷ left) in
        let r = passes_within {xs = xs} {m = prims_of l.items} (lists_of gone) (lists_of left) (rw parts at h) in n r.0 r.1.passed r.1.commute

  pub passed_all : (xs : List Prim) (left ts : List (Vec (Primitive Z) Y)) → all ≡ gone ++ left → length left ≡ 0 → EachPasses xs (lists_of gone) (lists_of ts) → EachPasses xs (lists_of all) (lists_of ts)
  passed_all xs [] ts w l h = rw (w ∙ append-nil gone) h
  passed_all xs (k ∷ left) ts w l h = absurd (omega (arith, l))

pub count_lists : {Z Y : Type 0} (ls : List (Vec (Primitive Z) Y)) → length (lists_of ls) ≡ length ls
count_lists {Z} {Y} ls = let read : Vec (Primitive Z) Y → List Prim = λ v. prims_of v.items in count read read ls

module _ {Z Y : Type 0} (ls : List (Vec (Primitive Z) Y)) where
  module _ (i : ℕ) (l : Vec (Primitive Z) Y) (below : i < length ls) (is : l ≡ get_or ls i l) where
    at_place : (d : List Prim) → get_or (lists_of ls) i d ≡ prims_of l.items
    at_place d = let read : Vec (Primitive Z) Y → List Prim = λ v. prims_of v.items in get_or-map read ls i l d below ∙ sym (ap read is)

    pub any_at : (P : List Prim → Type 0) → P (prims_of l.items) → Any P (lists_of ls)
    any_at P h = (i, prims_of l.items, rw (count_lists ls) below, at_place (prims_of l.items), h)

    -- what holds of each list
    module _ (P : List Prim → Type 0) where
      pub each_at : All P (lists_of ls) → P (prims_of l.items)
      each_at h = rw (at_place []) at (h i [] (rw (count_lists ls) below))

      pub each_more : ((k : ℕ) → k < i → (d : List Prim) → P (get_or (lists_of ls) k d)) → P (prims_of l.items) → (k : ℕ) → k < i + 1 → (d : List Prim) → P (get_or (lists_of ls) k d)
      each_more h here = below_more (λ k. (d : List Prim) → P (get_or (lists_of ls) k d)) i h (λ d. rw (at_place d) here)

  module _ (i : ℕ) (end : length ls ≤ i) where
    pub each_all : (P : List Prim → Type 0) → ((k : ℕ) → k < i → (d : List Prim) → P (get_or (lists_of ls) k d)) → All P (lists_of ls)
    each_all P h k d l = h k (omega (arith, end, count_lists ls)) d

    pub none_of : (P : List Prim → Type 0) → ((k : ℕ) → k < i → (d : List Prim) → P (get_or (lists_of ls) k d)) → Any (λ m. P m → ⊥) (lists_of ls) → ⊥
    none_of P h (k, x, l, e, n) = n (rw e at (h k (omega (arith, end, l, count_lists ls)) x))
