-- Lists that are copied one by one, whatever is read of an element.
use Rattle.std.proofs.Common.{◌≡◌, ℕ, ◌+◌, ◌<◌, ◌≤◌, List, [], ◌∷◌, ◌++◌, take, length, map, get_or, sym, ap, ap₂, ◌∙◌}
use Rattle.std.proofs.lemmas.List.{take_all, take_more, map_push, get_or-map, length-map}

module _ {X Y P : Type 0} (f : X → P) (g : Y → P) where
  pub count : (xs : List X) → length (map f xs) ≡ length xs
  count xs = length-map xs f

  -- one more of the values read
  pub read_more : (xs : List X) (i : ℕ) (x : X) → i < length xs → x ≡ get_or xs i x → take (i + 1) (map f xs) ≡ take i (map f xs) ++ f x ∷ []
  read_more xs i x l e = take_more (map f xs) i (f x) (rw (count xs) l) ∙ ap (λ v. take i (map f xs) ++ v ∷ []) (get_or-map f xs i x (f x) l ∙ sym (ap f e))

  pub copied_more : (xs : List X) (ys ys' : List Y) (i : ℕ) (x : X) (y : Y) → i < length xs → x ≡ get_or xs i x → g y ≡ f x → ys' ≡ ys ++ y ∷ [] →
      map g ys ≡ take i (map f xs) → map g ys' ≡ take (i + 1) (map f xs)
  copied_more xs ys ys' i x y l e same new h = ap (map g) new ∙ map_push g ys y ∙ ap₂ (λ a b. a ++ b ∷ []) h same ∙ sym (read_more xs i x l e)

  pub copied_all : (xs : List X) (ys : List Y) (i : ℕ) → length xs ≤ i → map g ys ≡ take i (map f xs) → map g ys ≡ map f xs
  copied_all xs ys i l h = h ∙ take_all i (map f xs) (rw (count xs) l)
