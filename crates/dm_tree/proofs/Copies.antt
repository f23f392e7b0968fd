-- A list that is copied item by item: one item more, and all of them.
use Rattle.std.proofs.Common.{◌≡◌, ℕ, ◌+◌, ◌<◌, ◌≤◌, List, [], ◌∷◌, ◌++◌, length, map, take, get_or, sym, ap, ap₂, ◌∙◌, arith, append_assoc, length-append}
use Rattle.std.proofs.lemmas.List.{take_all, take_more, map_push}

pub copied_more : {X : Type 0} (xs ys zs : List X) (i : ℕ) (d y : X) → i < length xs → y ≡ get_or xs i d → zs ≡ ys ++ y ∷ [] → ys ≡ take i xs → zs ≡ take (i + 1) xs
copied_more xs ys zs i d y l at new h = new ∙ ap₂ (λ a b. a ++ b ∷ []) h at ∙ sym (take_more xs i d l)

pub copied_all : {X : Type 0} (xs ys : List X) (i : ℕ) → length xs ≤ i → ys ≡ take i xs → ys ≡ xs
copied_all xs ys i l h = h ∙ take_all i xs l

pub mapped_more : {X Y : Type 0} (f : X → Y) (xs : List X) (ys zs : List Y) (i : ℕ) (d : X) (y : Y) → i < length xs → y ≡ f (get_or xs i d) → zs ≡ ys ++ y ∷ [] → ys ≡ map f (take i xs) → zs ≡ map f (take (i + 1) xs)
mapped_more f xs ys zs i d y l at new h =
    new ∙ ap₂ (λ a b. a ++ b ∷ []) h at ∙ sym (map_push f (take i xs) (get_or xs i d)) ∙ ap (map f) (sym (take_more xs i d l))

pub mapped_all : {X Y : Type 0} (f : X → Y) (xs : List X) (ys : List Y) (i : ℕ) → length xs ≤ i → ys ≡ map f (take i xs) → ys ≡ map f xs
mapped_all f xs ys i l h = h ∙ ap (map f) (take_all i xs l)

-- what is copied, and what is to come
pub moved_more : {X Y : Type 0} (f : X → Y) (all : List Y) (rest rest' : List X) (ys zs : List Y) (x : X) (y : Y) → rest ≡ x ∷ rest' → y ≡ f x → zs ≡ ys ++ y ∷ [] → ys ++ map f rest ≡ all → zs ++ map f rest' ≡ all
moved_more f all rest rest' ys zs x y at same new h =
    ap (λ z. z ++ map f rest') new ∙ append_assoc ys (y ∷ []) (map f rest') ∙ ap (λ v. ys ++ v ∷ map f rest') same ∙ ap (λ r. ys ++ map f r) (sym at) ∙ h

-- the same behind a list that was there
pub pushed_more : {X : Type 0} (all xs ys zs : List X) (i : ℕ) (d y : X) → i < length xs → y ≡ get_or xs i d → zs ≡ ys ++ y ∷ [] → ys ≡ all ++ take i xs → zs ≡ all ++ take (i + 1) xs
pushed_more all xs ys zs i d y l at new h =
    new ∙ ap₂ (λ a b. a ++ b ∷ []) h at ∙ append_assoc all (take i xs) (get_or xs i d ∷ []) ∙ ap (λ z. all ++ z) (sym (take_more xs i d l))

pub pushed_all : {X : Type 0} (all xs ys : List X) (i : ℕ) → length xs ≤ i → ys ≡ all ++ take i xs → ys ≡ all ++ xs
pushed_all all xs ys i l h = h ∙ ap (λ z. all ++ z) (take_all i xs l)

pub pushed_some : {X : Type 0} (ys zs : List X) (y : X) → zs ≡ ys ++ y ∷ [] → 0 < length zs
pushed_some ys zs y e = omega (arith, ap length e, length-append ys (y ∷ []))

-- three lists that were appended to an empty one
pub three_on : {X : Type 0} (t xs ys zs a b c : List X) → t ≡ [] → a ≡ t ++ xs → b ≡ a ++ ys → c ≡ b ++ zs → c ≡ xs ++ (ys ++ zs)
three_on t xs ys zs a b c e f g h = h ∙ ap (λ w. w ++ zs) (g ∙ ap (λ w. w ++ ys) (f ∙ ap (λ w. w ++ xs) e)) ∙ append_assoc xs ys zs
