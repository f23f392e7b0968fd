-- The lines of digits that are written.
use Rattle.std.proofs.Common.{◌≡◌, ℕ, zero, suc, ◌+◌, ◌-◌, ◌*◌, ◌/◌, ◌%◌, ◌≤◌, min, List, [], ◌∷◌, ◌++◌, ◌==◌, ◌||◌, Bool, true, false, length, map, take, drop, slice_index, refl, sym, ap, ◌∙◌, add-one, arith}
use Rattle.std.specs.List.{concat, flat_map, list_any, range_with_len}
use Rattle.std.proofs.lemmas.Bool.{false≢true}
use Rattle.std.proofs.lemmas.List.{append-nil, append_assoc, drop-take, take-append-drop, take-take, flat_map_more, length-drop, take_all, take_min}
use Rattle.std.proofs.lemmas.List.Elements.{All-map}
use Rattle.std.proofs.lemmas.List.Folds.{concat-append}
use Rattle.std.proofs.lemmas.List.FromFn.{length-map-range_with_len, map-range_with_len_more}
use Rattle.hex.specs.Hex.{IsBytes, encode_with, lower_digits}
use Rattle.dm_tree.specs.Trees.{Lines}
use Rattle.dm_tree.specs.Validity.{ArePlain, IsPlain}
use Rattle.dm_hex.specs.Digits.{IsHexOf, hex_digits, star_line, star_lines, star_text}
use Rattle.dm_hex.proofs.DigitLemmas.{digits_append, written_hex}

-- the first n elements, and the m behind them
take_add : (n m : ℕ) (xs : List ℕ) → take n xs ++ take m (drop n xs) ≡ take (n + m) xs
take_add n m xs =
    ap (λ (v : List ℕ). v ++ take m (drop n xs)) (sym (take-take n (n + m) xs (omega arith)))
    ∙ ap (λ (v : List ℕ). take n (take (n + m) xs) ++ v) (sym (drop-take n m xs))
    ∙ take-append-drop n (take (n + m) xs)

-- the first lines, put together
first_lines : (bytes : List ℕ) (m : ℕ) → concat (map (star_line bytes) (range_with_len 0 m)) ≡ hex_digits (take (39 * m) bytes)
unfolding star_line encode_with
first_lines bytes zero = refl
first_lines bytes (suc m) =
    let more = map-range_with_len_more (star_line bytes) 0 m m (omega arith) in
    let there : 39 * m + 39 ≡ 39 * suc m = omega arith in
    let next : List ℕ = take 39 (drop (39 * m) bytes) in
    ap concat (rw (add-one m) at more)
    ∙ concat-append (map (star_line bytes) (range_with_len 0 m)) (star_line bytes m ∷ [])
    ∙ ap (λ (v : List ℕ). v ++ (hex_digits next ++ [])) (first_lines bytes m)
    ∙ ap (λ (v : List ℕ). hex_digits (take (39 * m) bytes) ++ v) (append-nil (hex_digits next))
    ∙ sym (digits_append lower_digits (take (39 * m) bytes) next)
    ∙ ap hex_digits (take_add (39 * m) 39 bytes)
    ∙ ap (λ (k : ℕ). hex_digits (take k bytes)) there

-- the lines, put together, are the digits
pub all_lines : (bytes : List ℕ) → concat (star_lines bytes) ≡ hex_digits bytes
unfolding star_lines
all_lines bytes =
    first_lines bytes (length bytes / 39 + 1)
    ∙ ap hex_digits (take_all (39 * (length bytes / 39 + 1)) bytes (omega arith))

-- the lines stand for the bytes
pub lines_stand : (bytes : List ℕ) → IsBytes bytes → IsHexOf (concat (star_lines bytes)) bytes
lines_stand bytes are = rw (all_lines bytes) (written_hex bytes are)

-- how many lines there are
pub lines_count : (bytes : List ℕ) → length (star_lines bytes) ≡ length bytes / 39 + 1
unfolding star_lines
lines_count bytes = length-map-range_with_len (star_line bytes) 0 (length bytes / 39 + 1)

-- no element of a plain list is a newline
plain_at : (t : List ℕ) → IsPlain t → (k : ℕ) → (slice_index t k == 10) ≡ false
plain_at [] plain k = refl
plain_at (x ∷ xs) plain zero = first (x == 10) (list_any (λ y. y == 10) xs) plain
  where
    first : (a b : Bool) → (a || b) ≡ false → a ≡ false
    first true b e = e
    first false b e = refl
plain_at (x ∷ xs) plain (suc k) = plain_at xs (other (x == 10) (list_any (λ y. y == 10) xs) plain) k
  where
    other : (a b : Bool) → (a || b) ≡ false → b ≡ false
    other true b e = absurd (false≢true (sym e))
    other false b e = e

-- digits have no newline
plain_digits : (t xs : List ℕ) → IsPlain t → IsPlain (encode_with t xs)
unfolding encode_with
plain_digits t [] plain = refl
plain_digits t (x ∷ xs) plain = rw (plain_at t plain (x / 16), plain_at t plain (x % 16)) (plain_digits t xs plain)

-- no line has a newline
pub lines_plain : (bytes : List ℕ) → ArePlain (star_lines bytes)
unfolding star_lines star_line
lines_plain bytes = All-map IsPlain (star_line bytes) (range_with_len 0 (length bytes / 39 + 1)) (λ k d at. plain_digits lower_digits _ refl)

-- a line is written
pub line_written : (out a b c bytes : List ℕ) (k end : ℕ) → 39 * k ≤ length bytes → end ≡ min (length bytes) (39 * k + 39) →
    a ≡ out ++ 42 ∷ [] → b ≡ a ++ hex_digits (take (end - 39 * k) (drop (39 * k) bytes)) → c ≡ b ++ 10 ∷ [] →
    c ≡ out ++ star_text (star_line bytes k)
unfolding star_line
line_written out a b c bytes k end within is star digits newline =
    let left : List ℕ = drop (39 * k) bytes in
    let line : List ℕ = hex_digits (take 39 left) in
    let count : end - 39 * k ≡ min 39 (length left) = omega (arith, is, length-drop (39 * k) bytes) in
    let same : take (end - 39 * k) left ≡ take 39 left = ap (λ (n : ℕ). take n left) count ∙ take_min 39 left in
    newline
    ∙ ap (λ (v : List ℕ). v ++ 10 ∷ []) (digits ∙ ap (λ (v : List ℕ). a ++ hex_digits v) same ∙ ap (λ (v : List ℕ). v ++ line) star)
    ∙ append_assoc (out ++ 42 ∷ []) line (10 ∷ [])
    ∙ append_assoc out (42 ∷ []) (line ++ 10 ∷ [])

-- one line more is written
pub lines_more : (out a b bytes : List ℕ) (k : ℕ) → a ≡ out ++ flat_map star_text (map (star_line bytes) (range_with_len 0 k)) →
    b ≡ a ++ star_text (star_line bytes k) → b ≡ out ++ flat_map star_text (map (star_line bytes) (range_with_len 0 (k + 1)))
lines_more out a b bytes k before more =
    let ls : Lines = map (star_line bytes) (range_with_len 0 k) in
    more
    ∙ ap (λ (v : List ℕ). v ++ star_text (star_line bytes k)) before
    ∙ flat_map_more star_text out ls (star_line bytes k)
    ∙ ap (λ (v : Lines). out ++ flat_map star_text v) (sym (map-range_with_len_more (star_line bytes) 0 k k (omega arith)))

-- all lines are written
pub lines_written : (out a bytes : List ℕ) (k : ℕ) → k ≡ length bytes / 39 + 1 →
    a ≡ out ++ flat_map star_text (map (star_line bytes) (range_with_len 0 k)) → a ≡ out ++ flat_map star_text (star_lines bytes)
unfolding star_lines
lines_written out a bytes k is before = before ∙ ap (λ (n : ℕ). out ++ flat_map star_text (map (star_line bytes) (range_with_len 0 n))) is
