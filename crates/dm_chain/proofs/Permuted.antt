-- Lists that are permutations of each other: what both end in cancels.
use Rattle.std.proofs.Common.{◌≡◌, ℕ, zero, suc, ◌<◌, List, [], ◌∷◌, ◌++◌, length, get_or, set, inl, inr, refl, sym, ap, subst, ◌∙◌, append_assoc, length-append, arith}
use Rattle.std.proofs.lemmas.Bool.{cases_lt}
use Rattle.std.specs.List.{swap}
use Rattle.std.specs.List.Sorted.{IsPermutation}
use Rattle.std.proofs.lemmas.List.{set_comm, set-set, set-get_or}
use Rattle.std.proofs.lemmas.List.Sorted.{IsPermutation-refl, IsPermutation-sym, IsPermutation-trans, IsPermutation-cons, IsPermutation-middle, IsPermutation-append_comm, IsPermutation-keeps}
use Rattle.dm_prim.proofs.Ends.{split}

-- the elements of xs in turn are found in ys and taken out, and then none is left
abbrev pub Found : {X : Type 0} → List X → List X → Type 0
Found [] ys = ys ≡ []
Found {X} (x ∷ xs) ys = (a : List X) × (b : List X) × (ys ≡ a ++ (x ∷ b)) × Found xs (a ++ b)

module _ {X : Type 0} where
  found-refl : (xs : List X) → Found xs xs
  found-refl [] = refl
  found-refl (x ∷ xs) = ([], xs, refl, found-refl xs)

  pub found_permuted : (xs ys : List X) → Found xs ys → IsPermutation xs ys
  found_permuted [] ys e = rw e (IsPermutation-refl [])
  found_permuted (x ∷ xs) ys (a, b, e, h) =
      rw e (IsPermutation-trans (x ∷ xs) (x ∷ (a ++ b)) (a ++ (x ∷ b)) (IsPermutation-cons x xs (a ++ b) (found_permuted xs (a ++ b) h)) (IsPermutation-sym (a ++ (x ∷ b)) (x ∷ (a ++ b)) (IsPermutation-middle a x b)))

  -- x is found in zs, and then u and v are
  abbrev FoundFirst : List X → X → List X → List X → Type 0
  FoundFirst u x v zs = (c : List X) × (d : List X) × (zs ≡ c ++ (x ∷ d)) × Found (u ++ v) (c ++ d)

  -- what stands anywhere in the first list can be found first
  found_first : (u : List X) (x : X) (v zs : List X) → Found (u ++ (x ∷ v)) zs → FoundFirst u x v zs
  found_first [] x v zs h = h
  found_first (y ∷ u) x v zs (e, f, is, h) = go (found_first u x v (e ++ f) h)
    where
      before : (c d m : List X) → Found (u ++ v) (c ++ d) → c ≡ e ++ m → f ≡ m ++ (x ∷ d) → FoundFirst (y ∷ u) x v zs
      before c d m r p q = (e ++ (y ∷ m), d, is ∙ ap (λ z. e ++ (y ∷ z)) q ∙ simp append_assoc, (e, m ++ d, simp append_assoc, subst (λ z. Found (u ++ v) z) (ap (λ z. z ++ d) p ∙ append_assoc e m d) r))

      after : (c d m : List X) → Found (u ++ v) (c ++ d) → e ≡ (c ++ (x ∷ [])) ++ m → d ≡ m ++ f → FoundFirst (y ∷ u) x v zs
      after c d m r p q = (c, m ++ (y ∷ f), is ∙ ap (λ z. z ++ (y ∷ f)) p ∙ simp append_assoc, (c ++ m, f, simp append_assoc, subst (λ z. Found (u ++ v) z) (ap (λ z. c ++ z) q ∙ sym (append_assoc c m f)) r))

      go : FoundFirst u x v (e ++ f) → FoundFirst (y ∷ u) x v zs
      go (c, d, k, r) = elim (cases_lt (length c) (length e)) [
        | inl l ↦ (let s = split (c ++ (x ∷ [])) d e f (append_assoc c (x ∷ []) d ∙ sym k) (omega (arith, l, length-append c (x ∷ []))) in after c d s.0 r s.1 s.2)
        | inr l ↦ (let s = split e f c (x ∷ d) k l in before c d s.0 r s.1 s.2)
      ]

  found-trans : (xs ys zs : List X) → Found xs ys → Found ys zs → Found xs zs
  found-trans [] ys zs e k = subst (λ z. Found z zs) e k
  found-trans (x ∷ xs) ys zs (a, b, e, h) k =
      let r = found_first a x b zs (subst (λ z. Found z zs) e k) in
      (r.0, r.1, r.2, found-trans xs (a ++ b) (r.0 ++ r.1) h r.3)

  -- y is found first, and z behind it stays behind what stood first
  put_behind : (y z q : X) (w s : List X) → Found (y ∷ w) (q ∷ s) → Found (y ∷ (z ∷ w)) (q ∷ (z ∷ s))
  put_behind y z q w s ([], b, e, h) =
      let i : q ≡ y = cc in let j : s ≡ b = cc in
      ([], z ∷ s, ap (λ t. t ∷ (z ∷ s)) i, ([], s, refl, subst (λ t. Found w t) (sym j) h))
  put_behind y z q w s (p ∷ a, b, e, h) =
      let i : q ≡ p = cc in let j : s ≡ a ++ (y ∷ b) = cc in
      (q ∷ (z ∷ a), b, ap (λ t. q ∷ (z ∷ t)) j, (q ∷ [], a ++ b, refl, subst (λ t. Found w (t ∷ (a ++ b))) (sym i) h))

  exchange_first : (y : X) (l : List X) (j : ℕ) (d : X) → j < length l → Found (y ∷ l) (get_or l j d ∷ set l j y)
  exchange_first y [] j d h = absurd (omega arith)
  exchange_first y (z ∷ w) zero d h = (z ∷ [], w, refl, found-refl (z ∷ w))
  exchange_first y (z ∷ w) (suc j) d h = put_behind y z (get_or w j d) w (set w j y) (exchange_first y w j d (omega arith))

  exchange : (l : List X) (i j : ℕ) (d : X) → i < j → j < length l → Found l (set (set l i (get_or l j d)) j (get_or l i d))
  exchange [] i j d h k = absurd (omega arith)
  exchange (y ∷ l) i zero d h k = absurd (omega arith)
  exchange (y ∷ l) zero (suc j) d h k = exchange_first y l j d (omega arith)
  exchange (y ∷ l) (suc i) (suc j) d h k = ([], set (set l i (get_or l j d)) j (get_or l i d), refl, exchange l i j d (omega arith) (omega arith))

  found_swapped : (l : List X) (i j : ℕ) → i < length l → j < length l → Found l (swap l i j)
  found_swapped [] i j h k = absurd (omega arith)
  found_swapped (y ∷ l) i j h k = elim (cases_lt i j) [
    | inl r ↦ exchange (y ∷ l) i j y r k
    | inr r ↦ elim (cases_lt j i) [
      | inl s ↦ rw (set_comm (y ∷ l) i j (get_or (y ∷ l) j y) (get_or (y ∷ l) i y) (λ e. omega arith)) (exchange (y ∷ l) j i y s h)
      | inr s ↦ unmoved (omega (arith, r, s))
    ]
  ]
    where
      unmoved : i ≡ j → Found (y ∷ l) (swap (y ∷ l) i j)
      unmoved e = subst (λ n. Found (y ∷ l) (swap (y ∷ l) i n)) e (rw (set-set (y ∷ l) i (get_or (y ∷ l) i y) (get_or (y ∷ l) i y), set-get_or (y ∷ l) i y) (found-refl (y ∷ l)))

  pub permuted_found : (xs ys : List X) → IsPermutation xs ys → Found xs ys
  permuted_found xs ys h = IsPermutation-keeps xs (λ l. Found xs l) (found-refl xs) (λ l i j p q r. found-trans xs l (swap l i j) r (found_swapped l i j p q)) ys h

  -- the same first element cancels
  pub cancel_first : (x : X) (xs ys : List X) → IsPermutation (x ∷ xs) (x ∷ ys) → IsPermutation xs ys
  cancel_first x xs ys h = go (permuted_found (x ∷ xs) (x ∷ ys) h)
    where
      go : (a : List X) × (b : List X) × (x ∷ ys ≡ a ++ (x ∷ b)) × Found xs (a ++ b) → IsPermutation xs ys
      go ([], b, e, r) = let j : ys ≡ b = cc in rw j (found_permuted xs b r)
      go (p ∷ a, b, e, r) =
          let i : p ≡ x = cc in let j : ys ≡ a ++ (x ∷ b) = cc in
          rw j (IsPermutation-trans xs (x ∷ (a ++ b)) (a ++ (x ∷ b)) (subst (λ z. IsPermutation xs (z ∷ (a ++ b))) i (found_permuted xs (p ∷ (a ++ b)) r)) (IsPermutation-sym (a ++ (x ∷ b)) (x ∷ (a ++ b)) (IsPermutation-middle a x b)))

  pub cancel_front : (zs xs ys : List X) → IsPermutation (zs ++ xs) (zs ++ ys) → IsPermutation xs ys
  cancel_front [] xs ys h = h
  cancel_front (z ∷ zs) xs ys h = cancel_front zs xs ys (cancel_first z (zs ++ xs) (zs ++ ys) h)

  pub cancel_back : (xs ys zs : List X) → IsPermutation (xs ++ zs) (ys ++ zs) → IsPermutation xs ys
  cancel_back xs ys zs h =
      cancel_front zs xs ys (IsPermutation-trans (zs ++ xs) (xs ++ zs) (zs ++ ys) (IsPermutation-append_comm zs xs) (IsPermutation-trans (xs ++ zs) (ys ++ zs) (zs ++ ys) h (IsPermutation-append_comm ys zs)))
