-- What was made on a disk, call by call.
use Rattle.std.specs.Prelude.{◌==◌, ℕ, if◌then◌else◌, List, [], ◌∷◌, ◌++◌, slice_index}
use Rattle.dm_checkout.specs.Made.{Made, Taken, MadeDir, MadeFile, MadePart}

-- one call of the system that was done
pub data Event : Type 0 where
  -- the folder at this place was made, or was there and empty
  took : (place : List ℕ) → Event
  -- a folder was made at this place
  made_dir : (place : List ℕ) → Event
  -- an empty file was made at this place
  made_file : (place : List ℕ) → Event
  -- these bytes were written to the file that was made last, all of them
  wrote : (bytes : List ℕ) → Event

-- the event of this kind
abbrev pub event_of_kind : ℕ → List ℕ → Event
event_of_kind kind text =
    if kind == 0 then took text else
    if kind == 1 then made_dir text else
    if kind == 2 then made_file text else
    wrote text

-- the event that the kind and the text stand for
abbrev pub event_of : List ℕ → List ℕ → Event
event_of numbers text = event_of_kind (slice_index numbers 0) text

-- what the events made, oldest first; the newest event comes first
abbrev pub made : List Event → List Made
made [] = []
made (took place ∷ earlier) = made earlier ++ Taken place ∷ []
made (made_dir place ∷ earlier) = made earlier ++ MadeDir place ∷ []
made (made_file place ∷ earlier) = made earlier ++ MadePart place ∷ []
made (wrote bytes ∷ made_file place ∷ earlier) = made earlier ++ MadeFile place bytes ∷ []
made (wrote bytes ∷ earlier) = made earlier
