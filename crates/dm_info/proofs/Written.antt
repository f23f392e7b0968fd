-- The end of a canonical text, written line by line.
use Rattle.std.proofs.Common.{◌≡◌, ℕ, zero, suc, ◌≤◌, List, [], ◌∷◌, ◌++◌, length, take, refl, ap, ◌∙◌, append_assoc}
use Rattle.std.proofs.lemmas.List.{append-nil, take_all}
use Rattle.std.specs.List.{flat_map}
use Rattle.dm_info.specs.Spelling.{log_text, canonical_end}

abbrev pub line_text : List ℕ → List ℕ
line_text line = 32 ∷ (line ++ 10 ∷ [])

-- what stands before the first line
abbrev pub begun : List ℕ → List (List ℕ) → List ℕ
begun old [] = old
begun old (line ∷ lines) = old ++ 10 ∷ []

abbrev pub so_far : List ℕ → List (List ℕ) → ℕ → List ℕ
so_far old log i = begun old log ++ flat_map line_text (take i log)

flat-log_text : (lines : List (List ℕ)) → flat_map line_text lines ++ 93 ∷ [] ≡ log_text lines
flat-log_text [] = refl
flat-log_text (line ∷ lines) = simp append_assoc (ap (λ (l : List ℕ). 32 ∷ (line ++ 10 ∷ l)) (flat-log_text lines))

pub ends_so : (old : List ℕ) (log : List (List ℕ)) (i : ℕ) → length log ≤ i → so_far old log i ++ 93 ∷ [] ≡ old ++ canonical_end log
ends_so old [] zero le = rw (append-nil old) refl
ends_so old [] (suc i) le = rw (append-nil old) refl
ends_so old (line ∷ lines) i le = rw (take_all i (line ∷ lines) le) (append_assoc (old ++ 10 ∷ []) (flat_map line_text (line ∷ lines)) (93 ∷ []) ∙ ap (λ (l : List ℕ). old ++ 10 ∷ [] ++ l) (flat-log_text (line ∷ lines)) ∙ append_assoc old (10 ∷ []) (log_text (line ∷ lines)))
