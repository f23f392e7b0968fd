-- A hash in hex digits is one word.
use Rattle.std.proofs.Common.{◌≡◌, ℕ, zero, suc, false, List, [], ◌∷◌, ◌++◌, length, refl, ◌/◌, ◌%◌, slice_index}
use Rattle.std.specs.List.{AllByRecursion}
use Rattle.sha1.specs.Sha1.{sha1, digest_bytes, hash_after, padded_message}
use Rattle.hex.specs.Hex.{encode_with, encode_lower, lower_digits}
use Rattle.dm_named.specs.Words.{is_white, skipped}

-- no byte at any place of these is white
at_place : (xs : List ℕ) → AllByRecursion (λ b. is_white b ≡ false) xs → (n : ℕ) → is_white (slice_index xs n) ≡ false
at_place [] all n = refl
at_place (x ∷ xs) all zero = all.0
at_place (x ∷ xs) all (suc n) = at_place xs all.1 n

digit : (n : ℕ) → is_white (slice_index lower_digits n) ≡ false
digit n = at_place lower_digits (refl, (refl, (refl, (refl, (refl, (refl, (refl, (refl, (refl, (refl, (refl, (refl, (refl, (refl, (refl, (refl, tt)))))))))))))))) n

pub solid_digits : (bytes : List ℕ) → AllByRecursion (λ b. is_white b ≡ false) (encode_lower bytes)
unfolding encode_with
solid_digits [] = tt
solid_digits (b ∷ bytes) = (digit (b / 16), (digit (b % 16), solid_digits bytes))

-- a hash isn't empty
more : (xs ys : List ℕ) → (ys ≡ [] → ⊥) → xs ++ ys ≡ [] → ⊥
more [] ys some e = some e
more (x ∷ xs) ys some e = cc

some_bytes : (h : List ℕ) (n : ℕ) → digest_bytes h (suc n) ≡ [] → ⊥
unfolding digest_bytes
some_bytes h n = more (digest_bytes h n) _ (λ e. cc)

pub some_hash : (m : List ℕ) → sha1 m ≡ [] → ⊥
unfolding sha1
some_hash m = some_bytes (hash_after (padded_message m) (length (padded_message m) / 64)) 4

skip_front : (xs rest : List ℕ) → AllByRecursion (λ b. is_white b ≡ false) xs → (xs ≡ [] → ⊥) → skipped (xs ++ rest) ≡ xs ++ rest
skip_front [] rest all some = absurd (some refl)
skip_front (x ∷ xs) rest all some = rw all.0 refl

some_digits : (bytes : List ℕ) → (bytes ≡ [] → ⊥) → encode_lower bytes ≡ [] → ⊥
unfolding encode_with
some_digits [] some e = some refl
some_digits (b ∷ bytes) some e = cc

pub hash_stands : (m rest : List ℕ) → skipped (encode_lower (sha1 m) ++ rest) ≡ encode_lower (sha1 m) ++ rest
hash_stands m rest = skip_front (encode_lower (sha1 m)) rest (solid_digits (sha1 m)) (some_digits (sha1 m) (some_hash m))
