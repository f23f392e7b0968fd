-- How the text of a file grows by one line.
use Rattle.std.proofs.Common.{◌≡◌, ◌<◌, ◌⊎◌, inl, inr, ◌+◌, ℕ, List, [], ◌∷◌, ◌++◌, length, take, get_or, sym, refl, ◌∙◌, append_assoc, arith}
use Rattle.std.proofs.lemmas.List.{append-nil, flat_map_more, length-take-le, take_more}
use Rattle.dm_tree.specs.Trees.{Lines}
use Rattle.dm_checkout.specs.Contents.{file_text}

file_first : (line : List ℕ) → file_text (line ∷ []) ≡ line
file_first line = append-nil line

file_more : (lines : Lines) (line : List ℕ) → 0 < length lines → file_text (lines ++ line ∷ []) ≡ (file_text lines ++ 10 ∷ []) ++ line
file_more [] line h = absurd (omega arith)
file_more (l ∷ ls) line h = sym (flat_map_more (λ m. 10 ∷ m) l ls line) ∙ sym (append_assoc (file_text (l ∷ ls)) (10 ∷ []) line)

-- what the loop over the lines adds, with the newline that stands before it but for the first
pub file_turn : (lines : Lines) (k : ℕ) (line before mid after : List ℕ) → k < length lines → line ≡ get_or lines k [] → before ≡ file_text (take k lines) → ((0 < k) × (mid ≡ before ++ 10 ∷ [])) ⊎ ((k ≡ 0) × (mid ≡ before)) → after ≡ mid ++ line → after ≡ file_text (take (k + 1) lines)
file_turn lines k line before mid after h is b m a =
    let taken : length (take k lines) ≡ k = length-take-le k lines (omega (arith, h)) in
    let turn : take (k + 1) lines ≡ take k lines ++ line ∷ [] = rw is (take_more lines k [] h) in
    elim m [
      | inl x ↦ rw (turn, file_more (take k lines) line (omega (arith, x.0, taken)), ← b, ← x.1) a
      | inr x ↦
          let none : take k lines ≡ [] = rw x.0 refl in
          rw (turn, none, file_first line) (rw (x.1, b, none) at a)
    ]
