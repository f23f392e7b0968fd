-- A changed word, or another link, is told by the lanes.
use Rattle.std.proofs.Common.{◌≡◌, ◌≢◌, ◌+◌, ◌*◌, ◌/◌, ◌%◌, ◌^◌, ◌<◌, ◌≤◌, zero, suc, inl, inr, ℕ, List, [], ◌∷◌, ◌++◌, length, slice_index, get_or, refl, sym, ◌∙◌, ap, subst, arith}
use Rattle.std.specs.Int.{w64, to_le_bytes}
use Rattle.std.proofs.lemmas.Bool.{cases_lt}
use Rattle.std.proofs.lemmas.List.{get_or_past}
use Rattle.std.proofs.lemmas.Grind.{same_number_lists}
use Rattle.std.proofs.lemmas.Nat.{le_bytes_8}
use Rattle.dm_journal.specs.Lanes.{taken, word_at, lane_after, lane_of, lane_from, lanes, stripes}
use Rattle.dm_journal.specs.Changes.{AreBytes, ChangedWordsAreTold, OtherLinksAreTold}
use Rattle.dm_journal.proofs.Takings.{taken-lt, taken_word, taken_lane}
use Rattle.dm_journal.proofs.Blocks.{same_parts, same_number}

word-lt : (bytes : List ℕ) (at : ℕ) → AreBytes bytes → word_at bytes at < 2 ^ 64
word-lt bytes at are =
    omega (arith, are at, are (at + 1), are (at + 2), are (at + 3), are (at + 4), are (at + 5), are (at + 6), are (at + 7))

-- a word behind the end
word_behind : (bytes : List ℕ) (at : ℕ) → length bytes ≤ at → word_at bytes at ≡ 0
word_behind bytes at end =
    let none = λ (k : ℕ). get_or_past bytes (at + k) 0 (omega (arith, end)) in
    rw (get_or_past bytes at 0 end, none 1, none 2, none 3, none 4, none 5, none 6, none 7) refl

-- a lane that has taken a word
after-lt : (begin : ℕ) (text : List ℕ) (lane n : ℕ) → 0 < n → lane_after begin text lane n < 2 ^ 64
unfolding lane_after
after-lt begin text lane zero some = absurd (omega (arith, some))
after-lt begin text lane (suc n) some = taken-lt (lane_after begin text lane n) (word_at text (32 * n + 8 * lane))

lane-lt : (begin : ℕ) (text : List ℕ) (lane n : ℕ) → begin < 2 ^ 64 → lane_after begin text lane n < 2 ^ 64
unfolding lane_after
lane-lt begin text lane zero low = low
lane-lt begin text lane (suc n) low = taken-lt (lane_after begin text lane n) (word_at text (32 * n + 8 * lane))

-- a lane is told by the words that it takes
module _ (begin lane : ℕ) (a b : List ℕ) (bytes_a : AreBytes a) (bytes_b : AreBytes b) (k : ℕ) where
  abbrev place : ℕ → ℕ
  place n = 32 * n + 8 * lane

  module _ (differs : word_at a (place k) ≢ word_at b (place k)) (elsewhere : (n : ℕ) → n ≢ k → word_at a (place n) ≡ word_at b (place n)) where
    same_until : (n : ℕ) → n ≤ k → lane_after begin a lane n ≡ lane_after begin b lane n
    unfolding lane_after
    same_until zero le = refl
    same_until (suc n) le = rw (same_until n (omega arith), elsewhere n (λ e. omega (arith, e, le))) refl

    other_from : (n : ℕ) → k < n → lane_after begin a lane n ≢ lane_after begin b lane n
    unfolding lane_after
    other_from zero lt same = omega (arith, lt)
    other_from (suc n) lt same = elim (cases_lt k n) [
      | inl before ↦ other_from n before (taken_lane (lane_after begin a lane n) (lane_after begin b lane n) (word_at a (place n)) (after-lt begin a lane n (omega (arith, before))) (after-lt begin b lane n (omega (arith, before))) (same ∙ ap (taken (lane_after begin b lane n)) (sym (elsewhere n (λ e. omega (arith, e, before))))))
      | inr here ↦
          let is : n ≡ k = omega arith in
          let lanes = same_until n (omega arith) in
          let words = taken_word (lane_after begin a lane n) (word_at a (place n)) (word_at b (place n)) (word-lt a (place n) bytes_a) (word-lt b (place n) bytes_b) (same ∙ ap (λ (x : ℕ). taken x (word_at b (place n))) (sym lanes)) in
          differs (subst (λ (x : ℕ). word_at a (place x) ≡ word_at b (place x)) is words)
    ]

-- four facts are one of each lane
each_lane : (P : ℕ → Type 0) (lane : ℕ) → lane < 4 → P 0 → P 1 → P 2 → P 3 → P lane
each_lane P zero lt p q r s = p
each_lane P (suc zero) lt p q r s = q
each_lane P (suc (suc zero)) lt p q r s = r
each_lane P (suc (suc (suc zero))) lt p q r s = s
each_lane P (suc (suc (suc (suc n)))) lt p q r s = absurd (omega (arith, lt))

-- the same lanes are the same each
same_each : (link m a b : List ℕ) → lanes link a ≡ lanes m b → (lane : ℕ) → lane < 4 → lane_of (lane_from link lane) a lane ≡ lane_of (lane_from m lane) b lane
unfolding lanes
same_each link m a b same lane lt =
    let of = λ (l : List ℕ) (t : List ℕ) (i : ℕ). lane_of (lane_from l i) t i in
    let low = λ (l : List ℕ) (t : List ℕ) (i : ℕ). taken-lt (lane_after (lane_from l i) t i (stripes t)) (length t) in
    let bytes = λ (l : List ℕ) (t : List ℕ) (i : ℕ). to_le_bytes w64 (of l t i) in
    let zeroth = same_parts (bytes link a 0) (bytes link a 1 ++ (bytes link a 2 ++ bytes link a 3)) (bytes m b 0) (bytes m b 1 ++ (bytes m b 2 ++ bytes m b 3)) refl same in
    let first = same_parts (bytes link a 1) (bytes link a 2 ++ bytes link a 3) (bytes m b 1) (bytes m b 2 ++ bytes m b 3) refl zeroth.1 in
    let last = same_parts (bytes link a 2) (bytes link a 3) (bytes m b 2) (bytes m b 3) refl first.1 in
    each_lane (λ i. lane_of (lane_from link i) a i ≡ lane_of (lane_from m i) b i) lane lt
    (same_number (of link a 0) (of m b 0) (low link a 0) (low m b 0) zeroth.0)
    (same_number (of link a 1) (of m b 1) (low link a 1) (low m b 1) first.0)
    (same_number (of link a 2) (of m b 2) (low link a 2) (low m b 2) last.0)
    (same_number (of link a 3) (of m b 3) (low link a 3) (low m b 3) last.1)

-- a text of words has a stripe
pub words_told : ChangedWordsAreTold
words_told link a b bytes_a bytes_b d same =
    let lane : ℕ = d.word % 4 in
    let k : ℕ = d.word / 4 in
    let here : 32 * k + 8 * lane ≡ 8 * d.word = omega arith in
    let differs : word_at a (32 * k + 8 * lane) ≢ word_at b (32 * k + 8 * lane) =
    λ e. d.differs (ap (word_at a) (sym here) ∙ e ∙ ap (word_at b) here) in
    let elsewhere : (n : ℕ) → n ≢ k → word_at a (32 * n + 8 * lane) ≡ word_at b (32 * n + 8 * lane) =
    λ n not.
    let place : 32 * n + 8 * lane ≡ 8 * (4 * n + lane) = omega arith in
    ap (word_at a) place ∙ d.elsewhere (4 * n + lane) (λ e. not (omega (arith, e))) ∙ ap (word_at b) (sym place) in
    elim (cases_lt (8 * d.word) (length a)) [
      | inl within ↦
          let strip : k < stripes a = omega (arith, within) in
          let begin = lane_from link lane in
          let equal = same_each link link a b same lane (omega arith) in
          let after = λ (n : ℕ). lane_after begin b lane n in
          let then : lane_of begin b lane ≡ taken (after (stripes a)) (length a) =
          ap (λ (n : ℕ). taken (after ((n + 31) / 32)) n) (sym d.long) in
          other_from begin lane a b bytes_a bytes_b k differs elsewhere (stripes a) strip
          (taken_lane (lane_after begin a lane (stripes a)) (after (stripes a)) (length a)
          (after-lt begin a lane (stripes a) (omega (arith, strip))) (after-lt begin b lane (stripes a) (omega (arith, strip))) (equal ∙ then))
      | inr past ↦ d.differs (word_behind a (8 * d.word) past ∙ sym (word_behind b (8 * d.word) (omega (arith, past, d.long))))
    ]

-- a lane that was another
same_begin : (text : List ℕ) (lane n a b : ℕ) → a < 2 ^ 64 → b < 2 ^ 64 → lane_after a text lane n ≡ lane_after b text lane n → a ≡ b
unfolding lane_after
same_begin text lane zero a b la lb same = same
same_begin text lane (suc n) a b la lb same =
    same_begin text lane n a b la lb (taken_lane (lane_after a text lane n) (lane_after b text lane n) (word_at text (32 * n + 8 * lane)) (lane-lt a text lane n la) (lane-lt b text lane n lb) same)

-- the 8 bytes at a place
abbrev eight : List ℕ → ℕ → List ℕ
eight bytes at =
    slice_index bytes at ∷ slice_index bytes (at + 1) ∷ slice_index bytes (at + 2) ∷ slice_index bytes (at + 3)
    ∷ slice_index bytes (at + 4) ∷ slice_index bytes (at + 5) ∷ slice_index bytes (at + 6) ∷ slice_index bytes (at + 7) ∷ []

eight-lt : (bytes : List ℕ) (at : ℕ) → AreBytes bytes → (i : ℕ) → get_or (eight bytes at) i 0 < 256
eight-lt bytes at are zero = are at
eight-lt bytes at are (suc zero) = are (at + 1)
eight-lt bytes at are (suc (suc zero)) = are (at + 2)
eight-lt bytes at are (suc (suc (suc zero))) = are (at + 3)
eight-lt bytes at are (suc (suc (suc (suc zero)))) = are (at + 4)
eight-lt bytes at are (suc (suc (suc (suc (suc zero))))) = are (at + 5)
eight-lt bytes at are (suc (suc (suc (suc (suc (suc zero)))))) = are (at + 6)
eight-lt bytes at are (suc (suc (suc (suc (suc (suc (suc zero))))))) = are (at + 7)
eight-lt bytes at are (suc (suc (suc (suc (suc (suc (suc (suc i)))))))) = omega arith

eight_at : (bytes : List ℕ) (at i : ℕ) → i < 8 → get_or (eight bytes at) i 0 ≡ slice_index bytes (at + i)
eight_at bytes at zero lt = ap (slice_index bytes) (omega arith)
eight_at bytes at (suc zero) lt = refl
eight_at bytes at (suc (suc zero)) lt = refl
eight_at bytes at (suc (suc (suc zero))) lt = refl
eight_at bytes at (suc (suc (suc (suc zero)))) lt = refl
eight_at bytes at (suc (suc (suc (suc (suc zero))))) lt = refl
eight_at bytes at (suc (suc (suc (suc (suc (suc zero)))))) lt = refl
eight_at bytes at (suc (suc (suc (suc (suc (suc (suc zero))))))) lt = refl
eight_at bytes at (suc (suc (suc (suc (suc (suc (suc (suc i)))))))) lt = absurd (omega (arith, lt))

-- a word has its bytes
same_bytes : (a b : List ℕ) (at : ℕ) → AreBytes a → AreBytes b → word_at a at ≡ word_at b at → (i : ℕ) → i < 8 → slice_index a (at + i) ≡ slice_index b (at + i)
same_bytes a b at bytes_a bytes_b same i lt =
    let of_a = le_bytes_8 (eight a at) (word_at a at) refl (eight-lt a at bytes_a) refl in
    let of_b = le_bytes_8 (eight b at) (word_at b at) refl (eight-lt b at bytes_b) refl in
    let lists : eight a at ≡ eight b at = sym of_a ∙ ap (to_le_bytes w64) same ∙ of_b in
    sym (eight_at a at i lt) ∙ ap (λ (l : List ℕ). get_or l i 0) lists ∙ eight_at b at i lt

from_link : (link : List ℕ) (lane : ℕ) → length link ≡ 32 → lane_from link lane ≡ word_at link (8 * lane)
from_link [] lane long = absurd (omega (arith, long))
from_link (byte ∷ link) lane long = refl

pub links_told : OtherLinksAreTold
links_told a b text bytes_a bytes_b long_a long_b other same =
    let words : (lane : ℕ) → lane < 4 → word_at a (8 * lane) ≡ word_at b (8 * lane) = λ lane lt.
    let low_a : lane_from a lane < 2 ^ 64 = subst (λ (x : ℕ). x < 2 ^ 64) (sym (from_link a lane long_a)) (word-lt a (8 * lane) bytes_a) in
    let low_b : lane_from b lane < 2 ^ 64 = subst (λ (x : ℕ). x < 2 ^ 64) (sym (from_link b lane long_b)) (word-lt b (8 * lane) bytes_b) in
    let after = taken_lane (lane_after (lane_from a lane) text lane (stripes text)) (lane_after (lane_from b lane) text lane (stripes text)) (length text)
    (lane-lt (lane_from a lane) text lane (stripes text) low_a) (lane-lt (lane_from b lane) text lane (stripes text) low_b) (same_each a b text text same lane lt) in
    sym (from_link a lane long_a) ∙ same_begin text lane (stripes text) (lane_from a lane) (lane_from b lane) low_a low_b after ∙ from_link b lane long_b in
    other (same_number_lists a b (long_a ∙ sym long_b) (λ k lt.
    let place : 8 * (k / 8) + k % 8 ≡ k = omega arith in
    ap (slice_index a) (sym place) ∙ same_bytes a b (8 * (k / 8)) bytes_a bytes_b (words (k / 8) (omega (arith, lt, long_a))) (k % 8) (omega arith) ∙ ap (slice_index b) place))
