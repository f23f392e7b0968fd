-- What a journal's file stands for.
use Rattle.std.specs.Prelude.{◌≡◌, ◌≢◌, ℕ, ◌+◌, ◌<◌, ◌^◌, List, [], ◌∷◌, ◌++◌, length, Option, Some, None}
use Rattle.std.proofs.Math.ListN.{replicate}
use Rattle.std.specs.Int.{w64, to_le_bytes}
use Rattle.sha2.specs.Sha256.{sha256}
use Rattle.dm_journal.specs.declared.format.Format.{Format}
use Rattle.dm_journal.specs.declared.format.Format.TheVariants.{First, Second, Third, Fields}
use Rattle.dm_journal.specs.declared.format.ChecksumField.TheVariants.{Sha256, Lanes}
use Rattle.dm_journal.specs.Format.{line, unit, filling}
use Rattle.dm_journal.specs.Lanes.{lanes}

-- a text's length in 8 bytes, this checksum, and the text
abbrev pub block : List ℕ → List ℕ → List ℕ
block checksum text = to_le_bytes w64 (length text) ++ (checksum ++ text)

-- the checksum of a text that follows on a link
unfoldable pub checksum_of : Format → List ℕ → List ℕ → List ℕ
checksum_of First link text = sha256 (link ++ text)
checksum_of Second link text = sha256 (link ++ text)
checksum_of Third link text = sha256 (link ++ text)
checksum_of (Fields kinds Sha256) link text = sha256 (link ++ text)
checksum_of (Fields kinds Lanes) link text = lanes link text

-- what a block follows on that stands behind one with this checksum: in the first format on nothing, in the others on that checksum
unfoldable pub next_link : Format → List ℕ → List ℕ
next_link First checksum = []
next_link Second checksum = checksum
next_link Third checksum = checksum
next_link (Fields kinds field) checksum = checksum

-- what a block follows on that stands behind blocks of these texts
abbrev pub link_after : Format → List ℕ → List (List ℕ) → List ℕ
link_after format link [] = link
link_after format link (text ∷ texts) = link_after format (next_link format (checksum_of format link text)) texts

-- the bytes of a link, none where there is no checksum
abbrev pub link_bytes : Option (List ℕ) → List ℕ
link_bytes None = []
link_bytes (Some checksum) = checksum

-- the bytes are a latch, whatever fills its unit, and what stands behind it
pub record IsLatch (format : Format) (latch : ℕ) (behind bytes : List ℕ) : Type 0 where
  pub fill : List ℕ
  pub filled : 1 + length fill ≡ unit format
  pub is : bytes ≡ latch ∷ (fill ++ behind)

-- the bytes are the block of the text with this checksum, whatever fills it up to whole units, and the rest
pub record IsBlock (format : Format) (checksum text rest bytes : List ℕ) : Type 0 where
  pub fits : length text < 2 ^ 64
  pub fill : List ℕ
  pub filled : length fill ≡ filling format (40 + length text)
  pub is : bytes ≡ block checksum text ++ (fill ++ rest)

-- behind an open latch, which is any byte but 0, stands something that has P
pub record IsOpen (format : Format) (P : List ℕ → Type 0) (bytes : List ℕ) : Type 0 where
  pub latch : ℕ
  pub is_open : latch ≢ 0
  pub behind : List ℕ
  pub stands : IsLatch format latch behind bytes
  pub has : P behind

-- the bytes are an open latch, the block of a text that follows on the link, and the rest
abbrev pub IsNext : Format → List ℕ → List ℕ → List ℕ → List ℕ → Type 0
IsNext format link text rest = IsOpen format (IsBlock format (checksum_of format link text) text rest)

-- the bytes are a block of each text in turn, each following on the one before it, and the rest
abbrev pub AreBlocks : Format → List ℕ → List ℕ → List (List ℕ) → List ℕ → Type 0
AreBlocks format link bytes [] rest = bytes ≡ rest
AreBlocks format link bytes (text ∷ texts) rest =
    (more : List ℕ) × IsNext format link text more bytes × AreBlocks format (next_link format (checksum_of format link text)) more texts rest

-- the file is the header of the format, whatever fills its unit, a block of each text in turn, and the rest
pub record Begins (format : Format) (file : List ℕ) (texts : List (List ℕ)) (rest : List ℕ) : Type 0 where
  pub fill : List ℕ
  pub filled : length fill ≡ filling format (length (line format))
  pub bytes : List ℕ
  pub is : file ≡ line format ++ (fill ++ bytes)
  pub blocks : AreBlocks format [] bytes texts rest

-- behind the blocks of the texts is a closed latch, which is 0, and behind its unit may be anything
abbrev pub Closes : Format → List ℕ → List (List ℕ) → List ℕ → Type 0
Closes format file texts behind = (rest : List ℕ) × Begins format file texts rest × IsLatch format 0 behind rest

-- the file has the format, and stands for the texts
abbrev pub StandsIn : Format → List ℕ → List (List ℕ) → Type 0
StandsIn format file texts = (behind : List ℕ) × Closes format file texts behind

-- the file stands for the texts
abbrev pub StandsFor : List ℕ → List (List ℕ) → Type 0
StandsFor file texts = (format : Format) × StandsIn format file texts

-- the bytes are zeros
abbrev pub IsZeros : List ℕ → Type 0
IsZeros bytes = (n : ℕ) × (bytes ≡ replicate n 0)
