-- What the events of a file say of it. The newest event comes first.
use Rattle.std.specs.Prelude.{◌≡◌, ◌⊎◌, ◌≤◌, ℕ, ◌+◌, ◌-◌, ◌/◌, ◌%◌, ◌==◌, Bool, true, false, not, if◌then◌else◌, List, [], ◌∷◌, ◌++◌, length, take, drop, refl}
use mathlib.Core.Logic.{inl, inr}
use Rattle.std.proofs.Math.Nat.{not-suc-le_self}
use Rattle.dm_journal.specs.Device.{Torn, Moment}
use Rattle.dm_disk.specs.Events.{Event, named, opened, wrote, synced, wrote_beside, synced_beside, renamed, synced_folder, gave_back, refused}

-- a file with these bytes at this place
abbrev pub overwritten : ℕ → List ℕ → List ℕ → List ℕ
overwritten at bytes file = take at file ++ bytes ++ drop (at + length bytes) file

-- the bytes of the new file beside this one
abbrev pub beside : List Event → List ℕ
beside [] = []
beside (wrote_beside mode bytes done ∷ earlier) = bytes
beside (renamed made old new done ∷ earlier) = []
beside (e ∷ earlier) = beside earlier

-- what a crash may leave of the new file: anything until it is synced
abbrev pub beside_may_leave : List Event → List ℕ → Type 0
beside_may_leave [] c = Unit {0}
beside_may_leave (wrote_beside mode bytes done ∷ earlier) c = Unit {0}
beside_may_leave (renamed made old new done ∷ earlier) c = Unit {0}
beside_may_leave (synced_beside true ∷ earlier) c = c ≡ beside earlier
beside_may_leave (e ∷ earlier) c = beside_may_leave earlier c

-- the bytes of the file
abbrev pub seen : List Event → List ℕ
seen [] = []
seen (opened size bytes ∷ earlier) = bytes
seen (wrote at bytes true ∷ earlier) = overwritten at bytes (seen earlier)
seen (renamed made old new true ∷ earlier) = beside earlier
seen (e ∷ earlier) = seen earlier

-- what a crash may leave of the file: after a write that, or any bytes in the range; after a sync the file as it is
abbrev pub file_may_leave : List Event → List ℕ → Type 0
file_may_leave [] c = c ≡ []
file_may_leave (opened size bytes ∷ earlier) c = c ≡ bytes
file_may_leave (wrote at bytes done ∷ earlier) c = (c ≡ overwritten at bytes (seen earlier)) ⊎ ((d : List ℕ) × file_may_leave earlier d × Torn at (length bytes) d c)
file_may_leave (synced true ∷ earlier) c = c ≡ seen earlier
file_may_leave (renamed made old new true ∷ earlier) c = beside_may_leave earlier c
file_may_leave (gave_back true ∷ earlier) c = c ≡ seen earlier
file_may_leave (e ∷ earlier) c = file_may_leave earlier c

-- what a crash may leave of another file that may still have the name on the disk, or have it already: none once the folder is synced
abbrev pub other_may_leave : List Event → List ℕ → Type 0
other_may_leave [] c = ⊥
other_may_leave (opened size bytes ∷ earlier) c = ⊥
other_may_leave (renamed made old new true ∷ earlier) c = file_may_leave earlier c ⊎ other_may_leave earlier c
other_may_leave (renamed made old new false ∷ earlier) c = beside_may_leave earlier c ⊎ other_may_leave earlier c
other_may_leave (gave_back true ∷ earlier) c = file_may_leave earlier c ⊎ other_may_leave earlier c
other_may_leave (gave_back false ∷ earlier) c = (c ≡ seen earlier) ⊎ other_may_leave earlier c
other_may_leave (synced_folder true ∷ earlier) c = ⊥
other_may_leave (e ∷ earlier) c = other_may_leave earlier c

-- what a crash may leave under the name
abbrev pub may_leave : List Event → List ℕ → Type 0
may_leave history c = file_may_leave history c ⊎ other_may_leave history c

-- what a crash may have left under the name since there were so many events
abbrev pub left_since : List Event → ℕ → List ℕ → Type 0
left_since [] t c = may_leave [] c
left_since (e ∷ earlier) t c = may_leave (e ∷ earlier) c ⊎ ((t ≤ length earlier) × left_since earlier t c)

-- what a crash may have left under the name since the file was opened, which was its first two events
abbrev pub left_since_opening : List Event → List ℕ → Type 0
left_since_opening history c = left_since history 2 c

-- whether a call failed, or was refused
abbrev pub is_fault : Event → Bool
is_fault (named name) = false
is_fault (opened size bytes) = false
is_fault (wrote at bytes done) = not done
is_fault (synced done) = not done
is_fault (wrote_beside mode bytes done) = not done
is_fault (synced_beside done) = not done
is_fault (renamed made old new done) = not done
is_fault (synced_folder done) = not done
is_fault (gave_back done) = not done
is_fault refused = true

-- how many calls failed, or were refused
abbrev pub faults : List Event → ℕ
faults [] = 0
faults (e ∷ earlier) = if is_fault e then faults earlier + 1 else faults earlier

-- the name that the file was opened by
abbrev pub opened_by : List Event → List ℕ
opened_by [] = []
opened_by (named name ∷ earlier) = name
opened_by (e ∷ earlier) = opened_by earlier

-- the bytes that it had then
abbrev pub read_first : List Event → List ℕ
read_first [] = []
read_first (opened size bytes ∷ earlier) = bytes
read_first (e ∷ earlier) = read_first earlier

-- which file it is, and how many events there were
abbrev pub moment : List Event → Moment
moment history = record { origin = record { name = opened_by history; bytes = read_first history }; time = length history }

-- it was opened by this name, as many bytes were read as the system tells that it has, and nothing has happened since
abbrev pub IsFresh : List ℕ → List Event → Type 0
IsFresh name history = (bytes : List ℕ) × (history ≡ opened (length bytes) bytes ∷ named name ∷ [])

-- the mode of a new file that takes the name: where an access control list may stand behind the group's bits, only its owner has any
abbrev pub lesser_mode : ℕ → ℕ
lesser_mode mode = if (mode / 8) % 8 == mode % 8 then mode else mode - mode % 64

-- the same owner and group, and that mode; or the mode of the old file, with which the file system made the new one by itself
abbrev pub TakesRights : ℕ → List ℕ → List ℕ → Type 0
TakesRights made old new =
    (owner group mode : ℕ) × (old ≡ owner ∷ group ∷ mode ∷ [])
    × ((new ≡ owner ∷ group ∷ lesser_mode mode ∷ []) ⊎ ((new ≡ old) × (mode ≡ made)))

-- a new file is made for its owner alone, and takes a name only with such rights
abbrev pub KeepsRights : List Event → Type 0
KeepsRights [] = Unit {0}
KeepsRights (wrote_beside mode bytes done ∷ earlier) = (mode ≡ 0o600) × KeepsRights earlier
KeepsRights (renamed made old new true ∷ earlier) = TakesRights made old new × KeepsRights earlier
KeepsRights (e ∷ earlier) = KeepsRights earlier

-- nothing was done, or the name was given back, or wasn't, and then the folder was synced, or wasn't
abbrev pub IsGivenBack : List Event → List Event → Type 0
IsGivenBack old new = (new ≡ old) ⊎ ((done again : Bool) × (new ≡ synced_folder again ∷ gave_back done ∷ old))

-- no other file may have the name on the disk
abbrev pub HasNoOther : List Event → Type 0
HasNoOther history = (c : List ℕ) → other_may_leave history c → ⊥

-- what a crash may leave now it may have left since any moment
pub left_now : (history : List Event) (t : ℕ) (c : List ℕ) → t ≤ length history → may_leave history c → left_since history t c
left_now [] t c le left = left
left_now (e ∷ earlier) t c le left = inl left

-- since the last event there is only what a crash may leave now
pub left_only_now : (history : List Event) (c : List ℕ) → left_since history (length history) c → may_leave history c
left_only_now [] c left = left
left_only_now (e ∷ earlier) c (inl left) = left
left_only_now (e ∷ earlier) c (inr before) = absurd (not-suc-le_self (length earlier) before.0)

-- a crash at any moment leaves something
beside_leaves_some : (history : List Event) → (c : List ℕ) × beside_may_leave history c
beside_leaves_some [] = ([], tt)
beside_leaves_some (named name ∷ earlier) = beside_leaves_some earlier
beside_leaves_some (opened size bytes ∷ earlier) = beside_leaves_some earlier
beside_leaves_some (wrote at bytes done ∷ earlier) = beside_leaves_some earlier
beside_leaves_some (synced done ∷ earlier) = beside_leaves_some earlier
beside_leaves_some (wrote_beside mode bytes done ∷ earlier) = ([], tt)
beside_leaves_some (synced_beside true ∷ earlier) = (beside earlier, refl)
beside_leaves_some (synced_beside false ∷ earlier) = beside_leaves_some earlier
beside_leaves_some (renamed made old new done ∷ earlier) = ([], tt)
beside_leaves_some (synced_folder done ∷ earlier) = beside_leaves_some earlier
beside_leaves_some (gave_back done ∷ earlier) = beside_leaves_some earlier
beside_leaves_some (refused ∷ earlier) = beside_leaves_some earlier

file_leaves_some : (history : List Event) → (c : List ℕ) × file_may_leave history c
file_leaves_some [] = ([], refl)
file_leaves_some (named name ∷ earlier) = file_leaves_some earlier
file_leaves_some (opened size bytes ∷ earlier) = (bytes, refl)
file_leaves_some (wrote at bytes done ∷ earlier) = (overwritten at bytes (seen earlier), inl refl)
file_leaves_some (synced true ∷ earlier) = (seen earlier, refl)
file_leaves_some (synced false ∷ earlier) = file_leaves_some earlier
file_leaves_some (wrote_beside mode bytes done ∷ earlier) = file_leaves_some earlier
file_leaves_some (synced_beside done ∷ earlier) = file_leaves_some earlier
file_leaves_some (renamed made old new true ∷ earlier) = beside_leaves_some earlier
file_leaves_some (renamed made old new false ∷ earlier) = file_leaves_some earlier
file_leaves_some (synced_folder done ∷ earlier) = file_leaves_some earlier
file_leaves_some (gave_back true ∷ earlier) = (seen earlier, refl)
file_leaves_some (gave_back false ∷ earlier) = file_leaves_some earlier
file_leaves_some (refused ∷ earlier) = file_leaves_some earlier

pub leaves_some : (history : List Event) → (c : List ℕ) × may_leave history c
leaves_some history = let some = file_leaves_some history in (some.0, inl some.1)
