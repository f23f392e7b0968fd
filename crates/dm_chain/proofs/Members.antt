-- What stands in a list, and lists in which nothing stands twice.
use Rattle.std.proofs.Common.{◌≡◌, ◌⊎◌, ℕ, zero, suc, ◌<◌, List, [], ◌∷◌, ◌++◌, length, get_or, map, inl, inr, refl, sym, ap, subst, arith, Contains}
use Rattle.std.proofs.lemmas.List.Elements.{Contains-append_left, Contains-append_right, Contains-append_cases}
use Rattle.dm_chain.specs.Chains.{Distinct}

module _ {X : Type 0} where
  pub none_in_nil : (x : X) → Contains [] x → ⊥
  none_in_nil x (k, l, e) = omega arith

  pub head_is_in : (x : X) (xs : List X) → Contains (x ∷ xs) x
  head_is_in x xs = (0, omega arith, refl)

  pub it_is_in : (y x : X) (xs : List X) → y ≡ x → Contains (y ∷ xs) x
  it_is_in y x xs e = subst (λ z. Contains (z ∷ xs) x) (sym e) (head_is_in x xs)

  pub next_is_in : (y x : X) (xs : List X) → Contains xs x → Contains (y ∷ xs) x
  next_is_in y x xs p = (suc p.0, omega (arith, p.1), p.2)

  pub in_cases : (y x : X) (xs : List X) → Contains (y ∷ xs) x → (y ≡ x) ⊎ Contains xs x
  in_cases y x xs p = by_index p.0 p.1 p.2
    where
      by_index : (k : ℕ) → k < suc (length xs) → get_or (y ∷ xs) k x ≡ x → (y ≡ x) ⊎ Contains xs x
      by_index zero l e = inl e
      by_index (suc k) l e = inr (k, omega arith, e)

  pub distinct-left : (xs ys : List X) → Distinct (xs ++ ys) → Distinct xs
  distinct-left [] ys h = tt
  distinct-left (x ∷ xs) ys h = (λ c. h.0 (Contains-append_left xs ys x c), distinct-left xs ys h.1)

  pub distinct-right : (xs ys : List X) → Distinct (xs ++ ys) → Distinct ys
  distinct-right [] ys h = h
  distinct-right (x ∷ xs) ys h = distinct-right xs ys h.1

  pub distinct-apart : (xs ys : List X) → Distinct (xs ++ ys) → (x : X) → Contains xs x → Contains ys x → ⊥
  distinct-apart [] ys h x c k = none_in_nil x c
  distinct-apart (y ∷ xs) ys h x c k = elim (in_cases y x xs c) [
    | inl e ↦ h.0 (rw e (Contains-append_right xs ys x k))
    | inr r ↦ distinct-apart xs ys h.1 x r k
  ]

  pub distinct-append : (xs ys : List X) → Distinct xs → Distinct ys → ((x : X) → Contains xs x → Contains ys x → ⊥) → Distinct (xs ++ ys)
  distinct-append [] ys h k n = k
  distinct-append (x ∷ xs) ys h k n = (
    λ c. elim (Contains-append_cases xs ys x c) [ inl l ↦ h.0 l | inr r ↦ n x (head_is_in x xs) r ],
    distinct-append xs ys h.1 k (λ z l r. n z (next_is_in x z xs l) r),
  )

pub map_is_in : {A B : Type 0} (f : A → B) (x : A) (xs : List A) → Contains xs x → Contains (map f xs) (f x)
map_is_in f x [] c = absurd (none_in_nil x c)
map_is_in f x (y ∷ xs) c = elim (in_cases y x xs c) [
  | inl e ↦ it_is_in (f y) (f x) (map f xs) (ap f e)
  | inr r ↦ next_is_in (f y) (f x) (map f xs) (map_is_in f x xs r)
]
