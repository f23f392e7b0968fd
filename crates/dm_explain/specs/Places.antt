-- Lines of a text.
use Rattle.std.specs.Prelude.{◌≡◌, ◌≤◌, ◌<◌, ◌-◌, ◌⊎◌, ℕ, suc, ◌==◌, List, [], ◌∷◌, length, slice_index, cond}

-- how many newlines there are
abbrev pub newlines : List ℕ → ℕ
newlines [] = 0
newlines (byte ∷ text) = cond (byte == 10) (suc (newlines text)) (newlines text)

-- no newline stands from one place up to another
abbrev pub IsOneLine : List ℕ → ℕ → ℕ → Type 0
IsOneLine text from to = (k : ℕ) → from ≤ k → k < to → slice_index text k ≡ 10 → ⊥

-- the last line of a text begins here: at its front, or after a newline
pub record IsLineStart (text : List ℕ) (start : ℕ) : Type 0 where
  pub within : start ≤ length text
  pub begins : (start ≡ 0) ⊎ ((0 < start) × (slice_index text (start - 1) ≡ 10))
  pub last : IsOneLine text start (length text)

-- the first line of a text ends here: with the text, or before a newline
pub record IsLineEnd (text : List ℕ) (end : ℕ) : Type 0 where
  pub within : end ≤ length text
  pub ends : (end ≡ length text) ⊎ (slice_index text end ≡ 10)
  pub first : IsOneLine text 0 end
