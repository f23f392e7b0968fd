-- Which texts were read from the files of which names.
use Rattle.std.specs.Prelude.{◌≡◌, ℕ, List, [], ◌∷◌, ◌++◌, map}
use Rattle.std.specs.Borrow.{Bor}
use Rattle.std.proofs.Common.{◌∙◌, refl}

-- the names that are lent
abbrev pub names_in : List (Bor (List ℕ)) → List (List ℕ)
names_in names = map (λ v. v.now) names

-- These texts were read from the files of the first of these names, in their order, one text of each; the other names are left. What a file had when it was
-- read is told of its name.
abbrev pub Reads : (List ℕ → List ℕ → Type 0) → List (List ℕ) → List (List ℕ) → List (List ℕ) → Type 0
Reads had names [] left = left ≡ names
Reads had [] (text ∷ texts) left = ⊥
Reads had (name ∷ names) (text ∷ texts) left = had name text × Reads had names texts left

-- nothing was read yet
pub none_read : {F : Type 0} (had : F → List ℕ → List ℕ → Type 0) (files : F) (names : List (List ℕ)) → (files ≡ files) × Reads (had files) names [] names
none_read had files names = (refl, refl)

-- what was read first, and then
pub then_read : (had : List ℕ → List ℕ → Type 0) (names mid left xs ys : List (List ℕ)) → Reads had names xs mid → Reads had mid ys left → Reads had names (xs ++ ys) left
then_read had names mid left [] ys first second = rw first at second
then_read had [] mid left (x ∷ xs) ys first second = absurd first
then_read had (n ∷ names) mid left (x ∷ xs) ys first second = (first.0, then_read had names mid left xs ys first.1 second)

-- so it is from the same files
pub more_read : {F : Type 0} (had : F → List ℕ → List ℕ → Type 0) (a b c : F) (names mid left xs ys : List (List ℕ)) → (b ≡ a) × Reads (had a) names xs mid → (c ≡ b) × Reads (had b) mid ys left →
    (c ≡ a) × Reads (had a) names (xs ++ ys) left
more_read had a b c names mid left xs ys first second = (second.0 ∙ first.0, then_read (had a) names mid left xs ys first.1 (rw first.0 at second.1))
