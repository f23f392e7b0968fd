-- What has happened to a file: the calls of the system that were made on it, each with its outcome.
use Rattle.std.specs.Prelude.{◌==◌, ℕ, Bool, if◌then◌else◌, List, [], ◌∷◌, take, drop, slice_index}
use Rattle.dm_disk.specs.declared.beside.Rights.{Rights}

-- one call; where it wasn't done, the system may still have done all of it, a part, or nothing
pub data Event : Type 0 where
  -- the file was opened by this name
  named : (name : List ℕ) → Event
  -- a sync had put the file and its name on the disk, these bytes were read, and the system told this size
  opened : (size : ℕ) (bytes : List ℕ) → Event
  -- these bytes were written at this place
  wrote : (at : ℕ) (bytes : List ℕ) (done : Bool) → Event
  -- the file was synced
  synced : (done : Bool) → Event
  -- a new file was made beside this one with this mode, and these bytes were written to it
  wrote_beside : (mode : ℕ) (bytes : List ℕ) (done : Bool) → Event
  -- the new file was synced
  synced_beside : (done : Bool) → Event
  -- the new file was given the name; the file had the one owner, group and mode, and the new file the other; it was made with this mode
  renamed : (made : ℕ) (old new : List ℕ) (done : Bool) → Event
  -- the folder was synced
  synced_folder : (done : Bool) → Event
  -- the file that had the name was given it again, once it had all bytes of the new file, and was synced
  gave_back : (done : Bool) → Event
  -- a read was refused
  refused : Event

-- the event of this kind
abbrev event_of_kind : ℕ → ℕ → List ℕ → List ℕ → Bool → Event
event_of_kind kind at rights bytes done =
    if kind == 0 then opened at bytes else
    if kind == 1 then wrote at bytes done else
    if kind == 2 then synced done else
    if kind == 3 then wrote_beside at bytes done else
    if kind == 4 then synced_beside done else
    if kind == 5 then renamed at (take 3 rights) (drop 3 rights) done else
    if kind == 6 then synced_folder done else
    if kind == 7 then gave_back done else
    if kind == 8 then refused else
    named bytes

-- the event that the kind, the place, size or mode, a 1 for done, the owners, groups and modes, and the bytes or the name stand for
abbrev pub event_of : List ℕ → List ℕ → Event
event_of numbers bytes = event_of_kind (slice_index numbers 0) (slice_index numbers 1) (drop 3 numbers) bytes (slice_index numbers 2 == 1)

-- the owner, the group and the mode
abbrev pub rights : Rights → List ℕ
rights r = r.owner ∷ r.group ∷ r.mode ∷ []
