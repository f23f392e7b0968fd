-- The trailer of a bundle, behind its context: the words `Patch bundle hash:` and a hash of the new patches. It is read as darcs reads
-- it. The mark stands past the white space behind the context, and nothing else stands between. The hash is the word behind the
-- mark, on its line or a later one. Upper-case digits make another hash. What stands behind that word isn't read. One thing is
-- stricter here: a mark with no word behind it is wrong, since the text was cut there; darcs takes it for no trailer.
use Rattle.std.specs.Prelude.{◌≡◌, ◌⊎◌, ℕ, List, [], ◌∷◌, ◌++◌, codes}
use Rattle.sha1.specs.Sha1.{sha1}
use Rattle.hex.specs.Hex.{encode_lower}
use Rattle.dm_named.specs.Words.{skipped, Word}
use Rattle.dm_named.specs.Patches.{Patch}
use Rattle.dm_hash.specs.Kept.{darcs1_text, darcs2_text}
use Rattle.dm_hash.specs.declared.trailer.Trailer.{Trailer}
use Rattle.dm_hash.specs.declared.trailer.Trailer.TheVariants.{NoHash, Right, Wrong}

-- what begins a trailer
abbrev pub trailer_mark : List ℕ
trailer_mark = codes "Patch bundle hash:"

-- the SHA-1 of a text, in lower-case hex digits
abbrev pub hash_text : List ℕ → List ℕ
hash_text text = encode_lower (sha1 text)

-- the mark stands at the front, and behind it, past white space, this word
pub record MarkedWord (rest word : List ℕ) : Type 0 where
  pub after : List ℕ
  pub behind : List ℕ
  pub mark : rest ≡ trailer_mark ++ after
  pub read : Word (skipped after) word behind

-- the word is the hash of these patches, kept in one way or the other
abbrev pub IsHashOf : List Patch → List ℕ → Type 0
IsHashOf patches word = (word ≡ hash_text (darcs1_text patches)) ⊎ (word ≡ hash_text (darcs2_text patches))

-- what stands behind a context says of the new patches: no mark begins it; a mark and their hash do; or a mark and another word do
abbrev pub TrailerSays : List Patch → List ℕ → Trailer → Type 0
TrailerSays patches rest NoHash = (after : List ℕ) → rest ≡ trailer_mark ++ after → ⊥
TrailerSays patches rest Right = (word : List ℕ) × MarkedWord rest word × IsHashOf patches word
TrailerSays patches rest Wrong = (word : List ℕ) × MarkedWord rest word × (IsHashOf patches word → ⊥)

-- the trailer as `darcs send` writes it in a darcs-1 repository: the mark and the hash, each on its line
abbrev pub trailer_text : List Patch → List ℕ
trailer_text patches = trailer_mark ++ 10 ∷ (hash_text (darcs1_text patches) ++ 10 ∷ [])
