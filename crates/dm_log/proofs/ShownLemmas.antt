-- Which of the two forms a shown text has.
use Rattle.std.proofs.Common.{◌≡◌, ℕ, List, true, false, refl}
use Rattle.std.specs.List.{flat_map}
use Rattle.std.specs.Str.{IsUtf8, chars, is_utf8}
use Rattle.std.proofs.lemmas.Str.{IsUtf8-from_is_utf8, is_utf8-from_IsUtf8}
use Rattle.dm_log.specs.Shown.{shown, shown_byte, shown_char}

pub shown-IsUtf8 : (text : List ℕ) → IsUtf8 text → shown text ≡ flat_map shown_char (chars text)
shown-IsUtf8 text u = rw (is_utf8-from_IsUtf8 text u) refl

pub not_utf8 : (text : List ℕ) → (IsUtf8 text → ⊥) → is_utf8 text ≡ false
not_utf8 text other = elim (is_utf8 text) as (λ b. is_utf8 text ≡ b → b ≡ false) [ true ↦ (λ e. absurd (other (IsUtf8-from_is_utf8 text e))) | false ↦ (λ _. refl) ] refl

pub shown-other : (text : List ℕ) → (IsUtf8 text → ⊥) → shown text ≡ flat_map shown_byte text
shown-other text other = rw (not_utf8 text other) refl
