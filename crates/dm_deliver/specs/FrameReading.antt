-- How a frame is read: what clauses of private functions cite, and the proofs that `Framed` owes as a source.
use Rattle.std.specs.Prelude.{◌≡◌, ◌+◌, ◌-◌, ℕ, suc, List, [], ◌++◌, length, Option, None, Some}
use Rattle.std.proofs.Common.{arith, length-append}
use Rattle.std.specs.Io.KnownBytes.{Consumes}
use Rattle.std.proofs.KnownBytes.{Consumes-nil, Consumes-trans}
use Rattle.std.proofs.lemmas.Grind.{flat_map-append}
use Rattle.dm_named.specs.Limits.{own}
use Rattle.dm_deliver.specs.Framing.{frame, frames, left_in, GaveFrames}
use Rattle.dm_deliver.specs.declared.frame_fault.FrameFaultKind.{FrameFaultKind}
use Rattle.dm_deliver.specs.declared.frame_fault.FrameFaultKind.TheVariants.{BadLength, Cut, Read, NoMemory, TooMany}
use Rattle.dm_deliver.specs.declared.framed.Framed.{Framed}
use Rattle.dm_deliver.specs.declared.place.Place.{Place}
use Rattle.dm_deliver.specs.declared.place.Place.TheVariants.{Line, Text}

-- so many bytes were read to the end of a text
pub record Grew (before after : Option (List ℕ)) (old new : List ℕ) (many : ℕ) : Type 0 where
  pub part : List ℕ
  pub bytes : Consumes before after part
  pub text : new ≡ old ++ part
  pub count : length part ≡ many

-- the fault is none of the stream's bytes
abbrev pub IsOutside : FrameFaultKind → Type 0
IsOutside BadLength = ⊥
IsOutside Cut = ⊥
IsOutside Read = Unit {0}
IsOutside NoMemory = Unit {0}
IsOutside TooMany = ⊥

-- how long a line can still become
abbrev pub line_room : Place → ℕ
line_room (Line None next) = own.bytes + 3
line_room (Line (Some n) next) = suc (own.bytes + 1 - n)
line_room (Text left) = 0

-- none are given yet
pub none_given : {R : Type 0} (remaining : R → Option (List ℕ)) (stream : Framed R) → GaveFrames remaining stream [] stream
none_given remaining stream = record { bytes = Consumes-nil (left_in remaining stream); count = omega arith }

-- some are given, and then others
pub more_given : {R : Type 0} (remaining : R → Option (List ℕ)) (a b c : Framed R) (xs ys : List (List ℕ)) →
    GaveFrames remaining a xs b → GaveFrames remaining b ys c → GaveFrames remaining a (xs ++ ys) c
more_given remaining a b c xs ys first second =
    record {
      bytes = rw (flat_map-append frame xs ys) (Consumes-trans (left_in remaining a) (left_in remaining b) (left_in remaining c) (frames xs) (frames ys) first.bytes second.bytes);
      count = omega (arith, first.count, second.count, length-append xs ys);
    }
