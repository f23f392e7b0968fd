-- What a crash may leave after a write and after a sync.
use Rattle.std.proofs.Common.{◌≡◌, inl, inr, ℕ, ◌+◌, ◌-◌, ◌≤◌, Bool, true, false, ap, append_assoc, List, [], ◌∷◌, ◌++◌, length, take, drop, refl, subst, ◌∙◌, arith, length-append}
use Rattle.std.proofs.lemmas.List.{take_at, drop_at, length-drop, length-take-le}
use Rattle.dm_journal.specs.Device.{Torn, Elapses, IsSince}
use Rattle.dm_disk.specs.Events.{Event, named, opened, wrote, synced, wrote_beside, synced_beside, renamed, synced_folder, gave_back, refused}
use Rattle.dm_disk.specs.States.{overwritten, beside, beside_may_leave, seen, file_may_leave, may_leave, moment, left_since, left_now, IsGivenBack}

-- a crash may leave the new file as it is
beside_stays : (history : List Event) → beside_may_leave history (beside history)
beside_stays [] = tt
beside_stays (wrote_beside mode bytes done ∷ earlier) = tt
beside_stays (renamed made old new done ∷ earlier) = tt
beside_stays (synced_beside true ∷ earlier) = refl
beside_stays (synced_beside false ∷ earlier) = beside_stays earlier
beside_stays (named name ∷ earlier) = beside_stays earlier
beside_stays (opened size bytes ∷ earlier) = beside_stays earlier
beside_stays (wrote at bytes done ∷ earlier) = beside_stays earlier
beside_stays (synced done ∷ earlier) = beside_stays earlier
beside_stays (synced_folder done ∷ earlier) = beside_stays earlier
beside_stays (gave_back done ∷ earlier) = beside_stays earlier
beside_stays (refused ∷ earlier) = beside_stays earlier

unwritten : (at n : ℕ) (file : List ℕ) → Torn at n file file
unwritten at n file = record { before = refl; after = refl; no_shorter = omega arith; no_longer = omega arith }

-- a crash may leave the file as it is
seen_stays : (history : List Event) → file_may_leave history (seen history)
seen_stays [] = refl
seen_stays (named name ∷ earlier) = seen_stays earlier
seen_stays (opened size bytes ∷ earlier) = refl
seen_stays (wrote at bytes true ∷ earlier) = inl refl
seen_stays (wrote at bytes false ∷ earlier) = inr (seen earlier, seen_stays earlier, unwritten at (length bytes) (seen earlier))
seen_stays (synced true ∷ earlier) = refl
seen_stays (synced false ∷ earlier) = seen_stays earlier
seen_stays (wrote_beside mode bytes done ∷ earlier) = seen_stays earlier
seen_stays (synced_beside done ∷ earlier) = seen_stays earlier
seen_stays (renamed made old new true ∷ earlier) = beside_stays earlier
seen_stays (renamed made old new false ∷ earlier) = seen_stays earlier
seen_stays (synced_folder done ∷ earlier) = seen_stays earlier
seen_stays (gave_back true ∷ earlier) = refl
seen_stays (gave_back false ∷ earlier) = seen_stays earlier
seen_stays (refused ∷ earlier) = seen_stays earlier

-- what a sync leaves a crash may have left before
pub after_sync : (history : List Event) (c : List ℕ) → may_leave (synced true ∷ history) c → may_leave history c
after_sync history c (inl now) = inl (rw now (seen_stays history))
after_sync history c (inr other) = inr other

-- a file that got the name back has the bytes that were seen
gave_back_file : (done : Bool) (history : List Event) (c : List ℕ) → file_may_leave (gave_back done ∷ history) c → file_may_leave history c
gave_back_file true history c same = rw same (seen_stays history)
gave_back_file false history c left = left

gave_back_within : (done : Bool) (history : List Event) (c : List ℕ) → may_leave (gave_back done ∷ history) c → may_leave history c
gave_back_within true history c (inl same) = inl (rw same (seen_stays history))
gave_back_within false history c (inl file) = inl file
gave_back_within true history c (inr (inl file)) = inl file
gave_back_within false history c (inr (inl same)) = inl (rw same (seen_stays history))
gave_back_within true history c (inr (inr other)) = inr other
gave_back_within false history c (inr (inr other)) = inr other

synced_folder_within : (again : Bool) (history : List Event) (c : List ℕ) → may_leave (synced_folder again ∷ history) c → may_leave history c
synced_folder_within again history c (inl file) = inl file
synced_folder_within true history c (inr none) = absurd none
synced_folder_within false history c (inr other) = inr other

module _ (history : List Event) where
  -- whatever a crash might have left up to the end of this list, it might have left before
  abbrev Quiet : List Event → Type 0
  Quiet new = (t : ℕ) (c : List ℕ) → t ≤ length history → left_since new t c → left_since history t c

  abbrev Keeps : List Event → Type 0
  Keeps new = (t : ℕ) (c : List ℕ) → t ≤ length history → left_since history t c → left_since new t c

  quiet : (e : Event) (mid : List Event) → Quiet mid → ((c : List ℕ) → may_leave (e ∷ mid) c → may_leave history c) → Quiet (e ∷ mid)
  quiet e mid before within t c le (inl now) = left_now history t c le (within c now)
  quiet e mid before within t c le (inr past) = before t c le past.1

  keeps : (e : Event) (mid : List Event) → length history ≤ length mid → Keeps mid → Keeps (e ∷ mid)
  keeps e mid longer before t c le left = inr (omega (arith, le, longer), before t c le left)

  elapsed : (new : List Event) → IsSince (moment history) (moment new) → Quiet new → Keeps new → Elapses (moment history) (moment new) (left_since history) (left_since new) (may_leave new)
  elapsed new longer past since = record { later = longer; nothing_else = λ t c le left. inl (past t c le left); keeps = since }

  abbrev settled : List Event
  settled = synced_folder true ∷ history

  settled_quiet : Quiet settled
  settled_quiet = quiet (synced_folder true) history (λ t c le left. left) (synced_folder_within true history)

  settled_keeps : Keeps settled
  settled_keeps = keeps (synced_folder true) history (omega arith) (λ t c le left. left)

  module _ (done again : Bool) where
    back_within : (c : List ℕ) → may_leave (gave_back done ∷ settled) c → may_leave history c
    back_within c left = synced_folder_within true history c (gave_back_within done settled c left)

    all_within : (c : List ℕ) → may_leave (synced_folder again ∷ gave_back done ∷ settled) c → may_leave history c
    all_within c left = back_within c (synced_folder_within again (gave_back done ∷ settled) c left)

    all_elapsed : Elapses (moment history) (moment (synced_folder again ∷ gave_back done ∷ settled)) (left_since history) (left_since (synced_folder again ∷ gave_back done ∷ settled)) (may_leave (synced_folder again ∷ gave_back done ∷ settled))
    all_elapsed = elapsed (synced_folder again ∷ gave_back done ∷ settled) (record { same = refl; later = omega arith })
        (quiet (synced_folder again) (gave_back done ∷ settled) (quiet (gave_back done) settled settled_quiet back_within) all_within)
        (keeps (synced_folder again) (gave_back done ∷ settled) (omega arith) (keeps (gave_back done) settled (omega arith) settled_keeps))

  module _ (new : List Event) (given : IsGivenBack settled new) where
    -- what a crash may leave of the file then, it might have left before the folder was settled
    pub file_after_giving_back : (c : List ℕ) → file_may_leave new c → file_may_leave history c
    file_after_giving_back c left = elim given [
      | inl same ↦ subst (λ h. file_may_leave h c) same left
      | inr back ↦ gave_back_file back.0 settled c (subst (λ h. file_may_leave h c) back.2 left)
    ]

    -- and so what it may leave under the name
    pub after_giving_back : (c : List ℕ) → may_leave new c → may_leave history c
    after_giving_back c left = elim given [
      | inl same ↦ synced_folder_within true history c (subst (λ h. may_leave h c) same left)
      | inr back ↦ all_within back.0 back.1 c (subst (λ h. may_leave h c) back.2 left)
    ]

    -- time goes on meanwhile
    pub time_of_giving_back : Elapses (moment history) (moment new) (left_since history) (left_since new) (may_leave new)
    time_of_giving_back = elim given [
      | inl same ↦ rw same (elapsed settled (record { same = refl; later = omega arith }) settled_quiet settled_keeps)
      | inr back ↦ rw back.2 (all_elapsed back.0 back.1)
    ]

module _ (at : ℕ) (bytes file : List ℕ) (le : at ≤ length file) where
  start : length (take at file) ≡ at
  start = length-take-le at file le

  front : length (take at file ++ bytes) ≡ at + length bytes
  front = omega (arith, start, length-append (take at file) bytes)

  size : length (overwritten at bytes file) ≡ at + length bytes + (length file - (at + length bytes))
  size = omega (arith, front, length-append (take at file ++ bytes) (drop (at + length bytes) file), length-drop (at + length bytes) file)

  -- a whole write is one of the outcomes of a write that is cut short
  written : Torn at (length bytes) file (overwritten at bytes file)
  written = record {
    before = ap (take at) (append_assoc (take at file) bytes (drop (at + length bytes) file)) ∙ take_at (take at file) (bytes ++ drop (at + length bytes) file) at start;
    after = drop_at (take at file ++ bytes) (drop (at + length bytes) file) (at + length bytes) front;
    no_shorter = omega (arith, size);
    no_longer = omega (arith, size);
  }

-- what a write leaves is such an outcome of what a crash may have left before
pub after_write : (history : List Event) (at : ℕ) (bytes : List ℕ) (done : Bool) → at ≤ length (seen history)
    → (c : List ℕ) → may_leave (wrote at bytes done ∷ history) c → (d : List ℕ) × may_leave history d × Torn at (length bytes) d c
after_write history at bytes done le c (inl (inl now)) = (seen history, inl (seen_stays history), rw now (written at bytes (seen history) le))
after_write history at bytes done le c (inl (inr torn)) = (torn.0, inl torn.1, torn.2)
after_write history at bytes done le c (inr other) = (c, inr other, unwritten at (length bytes) c)
