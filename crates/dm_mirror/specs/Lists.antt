-- Lists that are laid side by side. For the clauses of private functions and the fields of private types alone.
use Rattle.std.specs.Prelude.{◌≡◌, ℕ, suc, List, [], ◌∷◌}

-- each of the first list has this to do with its fellow in the second, and none is left over
abbrev pub EachWith : {A B : Type 0} → (A → B → Type 0) → List A → List B → Type 0
EachWith P [] [] = Unit {0}
EachWith P [] (y ∷ ys) = ⊥
EachWith P (x ∷ xs) [] = ⊥
EachWith P (x ∷ xs) (y ∷ ys) = P x y × EachWith P xs ys

-- the same, with the number of each, from n on
abbrev pub EachFrom : {A B : Type 0} → (ℕ → A → B → Type 0) → ℕ → List A → List B → Type 0
EachFrom P n [] [] = Unit {0}
EachFrom P n [] (y ∷ ys) = ⊥
EachFrom P n (x ∷ xs) [] = ⊥
EachFrom P n (x ∷ xs) (y ∷ ys) = P n x y × EachFrom P (suc n) xs ys

-- these are the firsts of the rows, and the rows without them
abbrev pub AreHeads : {A : Type 0} → List (List A) → List A → List (List A) → Type 0
AreHeads [] [] [] = Unit {0}
AreHeads [] [] (rest ∷ rests) = ⊥
AreHeads [] (head ∷ heads) rests = ⊥
AreHeads (row ∷ rows) [] rests = ⊥
AreHeads (row ∷ rows) (head ∷ heads) [] = ⊥
AreHeads (row ∷ rows) (head ∷ heads) (rest ∷ rests) = (row ≡ head ∷ rest) × AreHeads rows heads rests
