-- Digits that stand for bytes, and the kit's words for decoding and encoding.
use Rattle.std.proofs.Common.{◌≡◌, ◌<◌, ℕ, take, get_or, ◌+◌, ◌*◌, ◌%◌, ◌/◌, List, [], ◌∷◌, ◌++◌, length, slice_index, Some, None, Option, Result, Ok, Err, refl, sym, ap, ◌∙◌, arith}
use Rattle.std.specs.List.{concat}
use Rattle.std.proofs.lemmas.List.{append-nil, append_assoc, take_more}
use Rattle.std.proofs.lemmas.List.Folds.{concat-append}
use Rattle.hex.specs.Hex.{IsBytes, decode_of, decode_pairs, digit_or_error, encode_with, hex_digit_value, lower_digits, pair_value, value_at, ◌>>=◌}
use Rattle.hex.specs.declared.error.FromHexError.{FromHexError}
use Rattle.hex.proofs.HexLemmas.{decode_of-encode_lower, decode_of-even, decode_of-ok, decode_pairs-ok}
use Rattle.hex.proofs.Pairs.{cons_byte, decode_pairs-ok_pair}
use Rattle.dm_tree.specs.Trees.{Lines}
use Rattle.dm_hex.specs.Digits.{IsHexOf, hex_digits}

-- what an `Ok` after `>>=` shows
bind_ok : {A B : Type 0} (r : Result A FromHexError) (f : A → Result B FromHexError) (y : B) → (r >>= f) ≡ Ok y → (x : A) × (r ≡ Ok x) × (f x ≡ Ok y)
bind_ok (Ok x) f y h = (x, refl, h)
bind_ok (Err e) f y h = cc h

-- the value of a digit that read
digit_read : (c i v : ℕ) (o : Option ℕ) → digit_or_error c i o ≡ Ok v → o ≡ Some v
digit_read c i v (Some w) h = cc h
digit_read c i v None h = cc h

-- one result has one value
ok_same : (r : Result (List ℕ) FromHexError) (xs ys : List ℕ) → r ≡ Ok xs → r ≡ Ok ys → xs ≡ ys
ok_same r xs ys h k = cc (h, k)

-- pairs that decode stand for the bytes
hex_of_pairs : (i : ℕ) (digits bytes : List ℕ) → decode_pairs i digits ≡ Ok bytes → IsHexOf digits bytes
unfolding decode_pairs
hex_of_pairs i [] [] h = tt
hex_of_pairs i [] (b ∷ bytes) h = cc h
hex_of_pairs i (d ∷ []) bytes h = cc h
hex_of_pairs i (high ∷ low ∷ digits) [] h =
    let pair = bind_ok (pair_value high low i) _ [] h in
    let rest = bind_ok (decode_pairs (i + 2) digits) _ [] pair.2 in
    cc rest.2
hex_of_pairs i (high ∷ low ∷ digits) (b ∷ bytes) h =
    let pair = bind_ok (pair_value high low i) _ (b ∷ bytes) h in
    let first = bind_ok (value_at high i) _ pair.0 pair.1 in
    let second = bind_ok (value_at low (i + 1)) _ pair.0 first.2 in
    let rest = bind_ok (decode_pairs (i + 2) digits) _ (b ∷ bytes) pair.2 in
    let whole : pair.0 ∷ rest.0 ≡ b ∷ bytes = ok_same _ _ _ refl rest.2 in
    let same : rest.0 ≡ bytes = cc whole in
    let byte : b ≡ first.0 * 16 + second.0 = cc (whole, second.2) in (
      (first.0, second.0, digit_read high i first.0 (hex_digit_value high) first.1, digit_read low (i + 1) second.0 (hex_digit_value low) second.1, byte),
      hex_of_pairs (i + 2) digits bytes (rest.1 ∙ ap Ok same),
    )

-- digits that stand for bytes decode to them
pairs_of_hex : (i : ℕ) (digits bytes : List ℕ) → IsHexOf digits bytes → decode_pairs i digits ≡ Ok bytes
unfolding decode_pairs
pairs_of_hex i [] [] h = refl
pairs_of_hex i [] (b ∷ bytes) h = absurd h
pairs_of_hex i (d ∷ []) [] h = absurd h
pairs_of_hex i (d ∷ []) (b ∷ bytes) h = absurd h
pairs_of_hex i (high ∷ low ∷ digits) [] h = absurd h
pairs_of_hex i (high ∷ low ∷ digits) (b ∷ bytes) h =
    let byte = h.0 in
    let first : value_at high i ≡ Ok byte.0 = ap (digit_or_error high i) byte.2 in
    let second : value_at low (i + 1) ≡ Ok byte.1 = ap (digit_or_error low (i + 1)) byte.3 in
    let pair : pair_value high low i ≡ Ok (byte.0 * 16 + byte.1) = rw (first, second) refl in
    decode_pairs-ok_pair i high low _ digits pair
    ∙ ap (cons_byte (byte.0 * 16 + byte.1)) (pairs_of_hex (i + 2) digits bytes h.1)
    ∙ ap (λ (v : ℕ). Ok (v ∷ bytes)) (sym byte.4)

-- digits stand for bytes just where they decode to them
pub hex_of_decode : (digits bytes : List ℕ) → decode_of digits ≡ Ok bytes → IsHexOf digits bytes
hex_of_decode digits bytes h =
    hex_of_pairs 0 digits bytes (sym (decode_of-even digits (decode_of-ok digits bytes h).0) ∙ h)

pub decode_of_hex : (digits bytes : List ℕ) → IsHexOf digits bytes → decode_of digits ≡ Ok bytes
decode_of_hex digits bytes h =
    let pairs = pairs_of_hex 0 digits bytes h in
    let twice = (decode_pairs-ok 0 digits bytes pairs).1 in
    decode_of-even digits (omega (arith, twice)) ∙ pairs

-- digits that are refused stand for nothing
pub no_hex : (digits bytes : List ℕ) (e : FromHexError) → decode_of digits ≡ Err e → IsHexOf digits bytes → ⊥
no_hex digits bytes e refused h = cc (refused, decode_of_hex digits bytes h)

-- digits stand for bytes in one way at most
pub one_meaning : (digits one other : List ℕ) → IsHexOf digits one → IsHexOf digits other → one ≡ other
one_meaning digits one other h k = ok_same (decode_of digits) one other (decode_of_hex digits one h) (decode_of_hex digits other k)

-- digits stand for bytes only
pub hex_bytes : (digits bytes : List ℕ) → IsHexOf digits bytes → IsBytes bytes
hex_bytes digits bytes h = (decode_of-ok digits bytes (decode_of_hex digits bytes h)).3

-- the digits of bytes stand for them
pub written_hex : (bytes : List ℕ) → IsBytes bytes → IsHexOf (hex_digits bytes) bytes
written_hex bytes are = hex_of_decode (hex_digits bytes) bytes (decode_of-encode_lower bytes are)

-- the digits of two runs of bytes are those of the first and those of the second
pub digits_append : (t xs ys : List ℕ) → encode_with t (xs ++ ys) ≡ encode_with t xs ++ encode_with t ys
unfolding encode_with
digits_append t [] ys = refl
digits_append t (x ∷ xs) ys = ap (λ (v : List ℕ). slice_index t (x / 16) ∷ slice_index t (x % 16) ∷ v) (digits_append t xs ys)

-- no bytes have no digits
pub no_digits : (front : List ℕ) → front ≡ front ++ hex_digits []
unfolding encode_with
no_digits front = sym (append-nil front)

-- the digits of one byte more
pub more_digits : (front a b c bytes : List ℕ) (i : ℕ) → i < length bytes → a ≡ front ++ hex_digits (take i bytes) →
    b ≡ a ++ slice_index lower_digits (slice_index bytes i / 16) ∷ [] → c ≡ b ++ slice_index lower_digits (slice_index bytes i % 16) ∷ [] →
    c ≡ front ++ hex_digits (take (i + 1) bytes)
unfolding encode_with
more_digits front a b c bytes i within before high low =
    let x : ℕ = slice_index bytes i in
    let h : ℕ = slice_index lower_digits (x / 16) in
    let l : ℕ = slice_index lower_digits (x % 16) in
    let digits : List ℕ = hex_digits (take i bytes) in
    low
    ∙ ap (λ (v : List ℕ). v ++ l ∷ []) (high ∙ ap (λ (v : List ℕ). v ++ h ∷ []) before)
    ∙ append_assoc (front ++ digits) (h ∷ []) (l ∷ [])
    ∙ append_assoc front digits (h ∷ l ∷ [])
    ∙ ap (λ (v : List ℕ). front ++ v) (sym (digits_append lower_digits (take i bytes) (x ∷ [])))
    ∙ ap (λ (v : List ℕ). front ++ hex_digits v) (sym (take_more bytes i 0 within))

-- one line more is put to the others
pub put_more : (ls : Lines) (i : ℕ) (a b line : List ℕ) → i < length ls → a ≡ concat (take i ls) → b ≡ a ++ line → line ≡ get_or ls i [] →
    b ≡ concat (take (i + 1) ls)
put_more ls i a b line within before more is =
    more
    ∙ ap (λ (v : List ℕ). v ++ line) before
    ∙ ap (λ (v : List ℕ). concat (take i ls) ++ v) (is ∙ sym (append-nil (get_or ls i [])))
    ∙ sym (concat-append (take i ls) (get_or ls i [] ∷ []))
    ∙ ap concat (sym (take_more ls i [] within))
