-- Laws of contents as hex digits.
use Rattle.std.specs.Prelude.{◌≡◌, ℕ, ◌+◌, ◌/◌, List, length}
use Rattle.std.specs.List.{concat}
use Rattle.hex.specs.Hex.{IsBytes}
use Rattle.dm_tree.specs.Trees.{Lines}
use Rattle.dm_tree.specs.Validity.{ArePlain}
use Rattle.dm_hex.specs.Contents.{content, AreFileLines}
use Rattle.dm_hex.specs.Digits.{IsHexOf, IsHexOfLines, line_bytes, star_lines}

-- digits stand for bytes in one way at most
abbrev pub DigitsHaveOneMeaning : Type 0
DigitsHaveOneMeaning = (digits one other : List ℕ) → IsHexOf digits one → IsHexOf digits other → one ≡ other

-- digits stand for bytes only
abbrev pub DigitsStandForBytes : Type 0
DigitsStandForBytes = (digits bytes : List ℕ) → IsHexOf digits bytes → IsBytes bytes

-- a content has one list of lines
abbrev pub ContentHasOneListOfLines : Type 0
ContentHasOneListOfLines = (one other : Lines) → AreFileLines one → AreFileLines other → content one ≡ content other → one ≡ other

-- each run of bytes is the content of a list of lines
abbrev pub BytesHaveLines : Type 0
BytesHaveLines = (bytes : List ℕ) → (lines : Lines) × AreFileLines lines × (content lines ≡ bytes)

-- lines of digits stand for one content at most
abbrev pub DigitsHaveOneContent : Type 0
DigitsHaveOneContent = (digits one other : Lines) → IsHexOfLines digits one → IsHexOfLines digits other → one ≡ other

-- the lines that are written for bytes stand for them
abbrev pub WrittenStandForBytes : Type 0
WrittenStandForBytes = (bytes : List ℕ) → IsBytes bytes → IsHexOf (concat (star_lines bytes)) bytes

-- no line that is written has a newline
abbrev pub WrittenArePlain : Type 0
WrittenArePlain = (bytes : List ℕ) → ArePlain (star_lines bytes)

-- how many lines are written: a full line for every 39 bytes, and one more
abbrev pub CountOfWritten : Type 0
CountOfWritten = (bytes : List ℕ) → length (star_lines bytes) ≡ length bytes / line_bytes + 1
