-- Texts in a stream: each in a frame.
use Rattle.std.specs.Prelude.{◌≡◌, ◌≢◌, ◌+◌, ◌≤◌, ℕ, IfSome, List, [], ◌++◌, length, flat_map, option_to_list, Option, None, Some}
use Rattle.std.specs.Fmt.{decimal}
use Rattle.std.specs.Io.KnownBytes.{Consumes, IsAtEnd, prepend_known}
use Rattle.dm_named.specs.Limits.{own}
use Rattle.dm_scratch.specs.Printing.{line_of}
use Rattle.dm_deliver.specs.declared.framed.Framed.{Framed}
use Rattle.dm_deliver.specs.declared.frame_fault.FrameFaultKind.{FrameFaultKind}
use Rattle.dm_deliver.specs.declared.frame_fault.FrameFaultKind.TheVariants.{BadLength, Cut, Read, NoMemory, TooMany}
use Rattle.dm_deliver.specs.declared.place.Place.{Place}
use Rattle.dm_deliver.specs.declared.place.Place.TheVariants.{Line, Text}

-- the frame of a text: the line of its length in decimal, and then its bytes
abbrev pub frame : List ℕ → List ℕ
frame text = line_of (decimal (length text)) ++ text

-- the frame of each text, in order
abbrev pub frames : List (List ℕ) → List ℕ
frames texts = flat_map frame texts

-- the digits of a number, where there is one
abbrev pub digits_if : Option ℕ → List ℕ
digits_if None = []
digits_if (Some n) = decimal n

-- what was read of a frame that isn't whole: the first bytes of its line, or its line and the first bytes of its text
abbrev pub begun : Place → List ℕ → List ℕ
begun (Line number next) text = digits_if number ++ option_to_list next
begun (Text left) text = line_of (decimal (length text + left)) ++ text

-- what a stream has left: what was read of the frame that isn't whole, and what the reader has left
abbrev pub left_in : {R : Type 0} → (R → Option (List ℕ)) → Framed R → Option (List ℕ)
left_in remaining stream = prepend_known (begun stream.place stream.text.items) (remaining stream.reader)

-- what was left in the stream is the frames of these texts, and then what is left; and they are counted
pub record GaveFrames {R : Type 0} (remaining : R → Option (List ℕ)) (old : Framed R) (texts : List (List ℕ)) (new : Framed R) : Type 0 where
  pub bytes : Consumes (left_in remaining old) (left_in remaining new) (frames texts)
  pub count : new.given ≡ old.given + length texts

-- no frame of a text within the limits begins these bytes
abbrev pub BeginsNoFrame : List ℕ → Type 0
BeginsNoFrame bytes = (text rest : List ℕ) → length text ≤ own.bytes → bytes ≡ frame text ++ rest → ⊥

-- they end in the middle of a frame: there are some, and no whole frame begins them
pub record IsCut (bytes : List ℕ) : Type 0 where
  pub some : bytes ≢ []
  pub no_frame : BeginsNoFrame bytes

-- what a fault says of what the stream has left, and of the reader: no frame begins so; or the reader is at its end, in the middle of one. The others
-- say nothing of the bytes.
abbrev pub IsFaultOf : FrameFaultKind → Option (List ℕ) → Option (List ℕ) → Type 0
IsFaultOf BadLength left reader = IfSome left BeginsNoFrame
IsFaultOf Cut left reader = IfSome left IsCut × IsAtEnd reader
IsFaultOf Read left reader = Unit {0}
IsFaultOf NoMemory left reader = Unit {0}
IsFaultOf TooMany left reader = Unit {0}
