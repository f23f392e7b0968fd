-- Lists that are compared one element after the other.
use Rattle.std.proofs.Common.{◌≡◌, ◌↔◌, IsTrue, Bool, ◌<◌, ◌≤◌, ◌+◌, ℕ, zero, suc, List, [], ◌∷◌, ◌++◌, length, take, get_or, map, sym, ap, ap₂, ◌∙◌, arith}
use Rattle.std.proofs.lemmas.List.{take_more, take_all, map_push, map-id, length-map}
use Rattle.dm_named.specs.Patches.{Patch}

module _ {X Y V : Type 0} (f : X → V) (g : Y → V) where
  -- one element more is the same
  pub same_more : (xs : List X) (ys : List Y) (i : ℕ) (x : X) (y : Y) → i < length xs → length xs ≡ length ys → x ≡ get_or xs i x → y ≡ get_or ys i y → f x ≡ g y →
      map f (take i xs) ≡ map g (take i ys) → map f (take (i + 1) xs) ≡ map g (take (i + 1) ys)
  same_more xs ys i x y l len e h same so =
      let a : take (i + 1) xs ≡ take i xs ++ x ∷ [] = take_more xs i x l ∙ ap (λ z. take i xs ++ z ∷ []) (sym e) in
      let b : take (i + 1) ys ≡ take i ys ++ y ∷ [] = take_more ys i y (omega (arith, l, len)) ∙ ap (λ z. take i ys ++ z ∷ []) (sym h) in
      ap (map f) a ∙ map_push f (take i xs) x ∙ ap₂ (λ s z. s ++ z ∷ []) so same ∙ sym (map_push g (take i ys) y) ∙ sym (ap (map g) b)

  -- where two elements differ so do the lists
  pub differ : (xs : List X) (ys : List Y) (i : ℕ) (x : X) (y : Y) → i < length xs → length xs ≡ length ys → x ≡ get_or xs i x → y ≡ get_or ys i y → (f x ≡ g y → ⊥) → map f xs ≡ map g ys → ⊥
  differ [] ys i x y l len e h other same = absurd (omega (arith, l))
  differ (a ∷ xs) [] i x y l len e h other same = absurd (omega (arith, len))
  differ (a ∷ xs) (b ∷ ys) zero x y l len e h other same = let s : f a ≡ g b = cc same in other (ap f e ∙ s ∙ sym (ap g h))
  differ (a ∷ xs) (b ∷ ys) (suc i) x y l len e h other same = let s : map f xs ≡ map g ys = cc same in differ xs ys i x y (omega (arith, l)) (omega (arith, len)) e h other s

  -- nor are they the same where they are not as long
  pub not_as_long : (xs : List X) (ys : List Y) → (length xs ≡ length ys → ⊥) → map f xs ≡ map g ys → ⊥
  not_as_long xs ys other same = other (sym (length-map xs f) ∙ ap length same ∙ length-map ys g)

  -- where all are the same
  pub all_same : (xs : List X) (ys : List Y) (n : ℕ) → length xs ≤ n → length xs ≡ length ys → map f (take n xs) ≡ map g (take n ys) → map f xs ≡ map g ys
  all_same xs ys n l len same = sym (ap (map f) (take_all n xs l)) ∙ same ∙ ap (map g) (take_all n ys (omega (arith, l, len)))

-- the same of lists of one type
module _ {X : Type 0} where
  plain : (xs ys : List X) → map (λ (x : X). x) xs ≡ map (λ (x : X). x) ys → xs ≡ ys
  plain xs ys e = sym (map-id xs) ∙ e ∙ map-id ys

  mapped : (xs ys : List X) → xs ≡ ys → map (λ (x : X). x) xs ≡ map (λ (x : X). x) ys
  mapped xs ys e = ap (map (λ (x : X). x)) e

  pub same_on : (xs ys : List X) (i : ℕ) (x y : X) → i < length xs → length xs ≡ length ys → x ≡ get_or xs i x → y ≡ get_or ys i y → x ≡ y →
      take i xs ≡ take i ys → take (i + 1) xs ≡ take (i + 1) ys
  same_on xs ys i x y l len e h same so = plain (take (i + 1) xs) (take (i + 1) ys) (same_more (λ z. z) (λ z. z) xs ys i x y l len e h same (mapped (take i xs) (take i ys) so))

  pub apart_at : (xs ys : List X) (i : ℕ) (x y : X) → i < length xs → length xs ≡ length ys → x ≡ get_or xs i x → y ≡ get_or ys i y → (x ≡ y → ⊥) → xs ≡ ys → ⊥
  apart_at xs ys i x y l len e h other same = differ (λ z. z) (λ z. z) xs ys i x y l len e h other (mapped xs ys same)

  pub same_to_end : (xs ys : List X) (n : ℕ) → length xs ≤ n → length xs ≡ length ys → take n xs ≡ take n ys → xs ≡ ys
  same_to_end xs ys n l len same = sym (take_all n xs l) ∙ same ∙ take_all n ys (omega (arith, l, len))

-- a patch is its three parts
pub same_parts : {r : Bool} (x y : Patch) → x.info ≡ y.info → x.deps ≡ y.deps → IsTrue r ↔ (x.prims ≡ y.prims) → IsTrue r ↔ (x ≡ y)
same_parts x y e f h = ((λ t. let p = h.0 t in λ i. record { info = e i; deps = f i; prims = p i }), (λ s. h.1 (ap (λ z. z.prims) s)))
