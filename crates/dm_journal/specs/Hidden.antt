-- Blocks that a closed latch hides.
use Rattle.std.specs.Prelude.{◌≡◌, ℕ, ◌+◌, List, [], length, Option, Some, None}
use Rattle.dm_journal.specs.declared.format.Format.{Format}
use Rattle.dm_journal.specs.Journal.{IsBlock, IsLatch, IsNext, Begins, checksum_of, next_link, link_after}

-- the bytes are a block that follows on the link, an open latch, and a block that follows on that one. A crash leaves at most one
pub record AreTwoBlocks (format : Format) (link bytes : List ℕ) : Type 0 where
  pub first : List ℕ
  pub more : List ℕ
  pub stands : IsBlock format (checksum_of format link first) first more bytes
  pub second : List ℕ
  pub rest : List ℕ
  pub next : IsNext format (next_link format (checksum_of format link first)) second rest more

-- the closed latch at this place hides two blocks that follow on those in front of it
pub record Hides (file : List ℕ) (at : ℕ) : Type 0 where
  pub format : Format
  pub texts : List (List ℕ)
  pub rest : List ℕ
  pub begins : Begins format file texts rest
  pub place : at + length rest ≡ length file
  pub behind : List ℕ
  pub closed : IsLatch format 0 behind rest
  pub blocks : AreTwoBlocks format (link_after format [] texts) behind

-- this place is told just where the closed latch there hides blocks
abbrev pub TellsHidden : List ℕ → Option ℕ → Type 0
TellsHidden file None = (at : ℕ) → ¬ Hides file at
TellsHidden file (Some at) = Hides file at
