-- Two lists of lines, compared one by one.
use Rattle.std.proofs.Common.{◌≡◌, ◌≢◌, ℕ, ◌+◌, ◌<◌, ◌≤◌, List, [], ◌∷◌, length, drop, get_or, map, suc, Bool, true, false, refl, sym, ap, ap₂, ◌∙◌}
use Rattle.std.specs.Prelude.{◌&&◌}
use Rattle.std.specs.Cmp.Lexicographic.{pointwise}
use Rattle.std.proofs.lemmas.List.{drop_more, drop_all}
use Rattle.dm_info.specs.Compared.{text_eq}

and_false : (b : Bool) → false ≡ (b && false)
and_false true = refl
and_false false = refl

module _ {X Y : Type 0} (f : X → List ℕ) (h : Y → List ℕ) where
  -- where the counts differ, so do the lists
  pub counts_differ : (xs : List X) (ys : List Y) → length xs ≢ length ys → false ≡ pointwise text_eq (map f xs) (map h ys)
  counts_differ [] [] n = absurd (n refl)
  counts_differ [] (y ∷ ys) n = refl
  counts_differ (x ∷ xs) [] n = refl
  counts_differ (x ∷ xs) (y ∷ ys) n = and_false (text_eq (f x) (h y)) ∙ ap (λ b. text_eq (f x) (h y) && b) (counts_differ xs ys (λ e. n (ap suc e)))

  module _ (xs : List X) (ys : List Y) (i : ℕ) (x : X) (y : Y) (lx : i < length xs) (ly : i < length ys) (ex : x ≡ get_or xs i x) (ey : y ≡ get_or ys i y)
      (so_far : pointwise text_eq (map f (drop i xs)) (map h (drop i ys)) ≡ pointwise text_eq (map f xs) (map h ys)) where
    one_more : pointwise text_eq (map f xs) (map h ys) ≡ (text_eq (f x) (h y) && pointwise text_eq (map f (drop (i + 1) xs)) (map h (drop (i + 1) ys)))
    one_more = sym so_far ∙ ap₂ (λ a b. pointwise text_eq (map f a) (map h b)) (drop_more xs i x lx ∙ ap (λ z. z ∷ drop (i + 1) xs) (sym ex)) (drop_more ys i y ly ∙ ap (λ z. z ∷ drop (i + 1) ys) (sym ey))

    pub lines_differ : text_eq (f x) (h y) ≡ false → false ≡ pointwise text_eq (map f xs) (map h ys)
    lines_differ e = sym (one_more ∙ ap (λ b. b && pointwise text_eq (map f (drop (i + 1) xs)) (map h (drop (i + 1) ys))) e)

    pub lines_more : text_eq (f x) (h y) ≡ true → pointwise text_eq (map f (drop (i + 1) xs)) (map h (drop (i + 1) ys)) ≡ pointwise text_eq (map f xs) (map h ys)
    lines_more e = sym (one_more ∙ ap (λ b. b && pointwise text_eq (map f (drop (i + 1) xs)) (map h (drop (i + 1) ys))) e)

  pub lines_end : (xs : List X) (ys : List Y) (i : ℕ) → length xs ≤ i → length ys ≤ i → pointwise text_eq (map f (drop i xs)) (map h (drop i ys)) ≡ pointwise text_eq (map f xs) (map h ys) → true ≡ pointwise text_eq (map f xs) (map h ys)
  lines_end xs ys i a b e = sym (ap₂ (λ p q. pointwise text_eq (map f p) (map h q)) (drop_all i xs a) (drop_all i ys b)) ∙ e
