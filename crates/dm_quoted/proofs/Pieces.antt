-- The pieces of a text, one after the other.
use Rattle.std.proofs.Common.{◌≡◌, ℕ, zero, suc, ◌<◌, ◌≤◌, List, [], ◌∷◌, ◌++◌, length, take, drop, refl, sym, ap, arith, length-drop}
use Rattle.bstr.specs.Utf8.{decoded}
use Rattle.bstr.proofs.lemmas.PieceLemmas.{piece-bounds}
use Rattle.dm_quoted.specs.Quoting.{shown_from, shown_piece}
use Rattle.dm_quoted.specs.declared.manner.Manner.{Manner}

shown-nil : (m : Manner) (n : ℕ) → shown_from m n [] ≡ []
unfolding shown_from
shown-nil m zero = refl
shown-nil m (suc n) = refl

shown-same : (m : Manner) (n k : ℕ) (text : List ℕ) → length text ≤ n → length text ≤ k → shown_from m n text ≡ shown_from m k text
unfolding shown_from
shown-same m zero k [] a b = sym (shown-nil m k)
shown-same m zero k (x ∷ xs) a b = absurd (omega arith)
shown-same m (suc n) zero [] a b = shown-nil m (suc n)
shown-same m (suc n) zero (x ∷ xs) a b = absurd (omega arith)
shown-same m (suc n) (suc k) [] a b = refl
shown-same m (suc n) (suc k) (x ∷ xs) a b =
    let s = (decoded (x ∷ xs)).size in
    let bounds = piece-bounds (x ∷ xs) (omega arith) in
    let left = length-drop s (x ∷ xs) in
    ap (λ l. shown_piece m (decoded (x ∷ xs)).char (take s (x ∷ xs)) ++ l) (shown-same m n k (drop s (x ∷ xs)) (omega arith) (omega arith))

-- the first piece, and those of what is left
pub shown-step : (m : Manner) (text : List ℕ) → 0 < length text → shown_from m (length text) text
    ≡ shown_piece m (decoded text).char (take (decoded text).size text) ++ shown_from m (length (drop (decoded text).size text)) (drop (decoded text).size text)
unfolding shown_from
shown-step m [] some = absurd (omega arith)
shown-step m (x ∷ xs) some =
    let s = (decoded (x ∷ xs)).size in
    let bounds = piece-bounds (x ∷ xs) some in
    let left = length-drop s (x ∷ xs) in
    ap (λ l. shown_piece m (decoded (x ∷ xs)).char (take s (x ∷ xs)) ++ l) (shown-same m (length xs) (length (drop s (x ∷ xs))) (drop s (x ∷ xs)) (omega arith) (omega arith))

pub shown-none : (m : Manner) (text : List ℕ) → length text ≡ 0 → shown_from m (length text) text ≡ []
shown-none m [] none = shown-nil m 0
shown-none m (x ∷ xs) none = absurd (omega (arith, none))
