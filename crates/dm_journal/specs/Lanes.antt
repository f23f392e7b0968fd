-- The checksum by lanes: four words, of which each takes every fourth word of a text.
use Rattle.std.specs.Prelude.{ℕ, zero, suc, ◌+◌, ◌*◌, ◌/◌, ◌%◌, ◌^◌, List, [], ◌∷◌, ◌++◌, length, slice_index}
use Rattle.std.specs.Int.{w64, rotate_left, from_le_bytes, to_le_bytes}

-- the sum of two words, and their product, without what is over 64 bits
abbrev pub add64 : ℕ → ℕ → ℕ
add64 a b = (a + b) % 2 ^ 64

abbrev pub mul64 : ℕ → ℕ → ℕ
mul64 a b = a * b % 2 ^ 64

-- a lane that has taken a word: a round of XXH64
abbrev pub taken : ℕ → ℕ → ℕ
taken lane word = mul64 (rotate_left w64 (add64 lane (mul64 word 0xC2B2AE3D27D4EB4F)) 31) 0x9E3779B185EBCA87

-- the word of the 8 bytes at a place, the lowest first; behind the end are zeros
abbrev pub word_at : List ℕ → ℕ → ℕ
word_at bytes at =
    from_le_bytes w64
    (slice_index bytes at ∷ slice_index bytes (at + 1) ∷ slice_index bytes (at + 2) ∷ slice_index bytes (at + 3)
    ∷ slice_index bytes (at + 4) ∷ slice_index bytes (at + 5) ∷ slice_index bytes (at + 6) ∷ slice_index bytes (at + 7) ∷ [])

-- a lane, counted from 0, after n stripes of 32 bytes: it has taken its word of each
unfoldable pub lane_after : ℕ → List ℕ → ℕ → ℕ → ℕ
lane_after begin text lane zero = begin
lane_after begin text lane (suc n) = taken (lane_after begin text lane n) (word_at text (32 * n + 8 * lane))

-- all four lanes after n stripes
abbrev pub lanes_after : List ℕ → List ℕ → ℕ → List ℕ
lanes_after begin text n =
    lane_after (slice_index begin 0) text 0 n ∷ lane_after (slice_index begin 1) text 1 n
    ∷ lane_after (slice_index begin 2) text 2 n ∷ lane_after (slice_index begin 3) text 3 n ∷ []

-- how many stripes a text has, the last one filled up
abbrev pub stripes : List ℕ → ℕ
stripes text = (length text + 31) / 32

-- a lane after a text and its length
abbrev pub lane_of : ℕ → List ℕ → ℕ → ℕ
lane_of begin text lane = taken (lane_after begin text lane (stripes text)) (length text)

-- what a lane begins with: its word of the link, or 1, 2, 3 or 4 where there is none
abbrev pub lane_from : List ℕ → ℕ → ℕ
lane_from [] lane = lane + 1
lane_from (byte ∷ link) lane = word_at (byte ∷ link) (8 * lane)

-- the four lanes after a text that follows on a link
unfoldable pub lanes : List ℕ → List ℕ → List ℕ
lanes link text =
    to_le_bytes w64 (lane_of (lane_from link 0) text 0)
    ++ (to_le_bytes w64 (lane_of (lane_from link 1) text 1)
    ++ (to_le_bytes w64 (lane_of (lane_from link 2) text 2)
    ++ to_le_bytes w64 (lane_of (lane_from link 3) text 3)))
