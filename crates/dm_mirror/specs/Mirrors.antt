-- A mirror before, during and after a run. For the clauses of private functions and for ghost fields alone.
use Rattle.std.specs.Prelude.{◌≡◌, ◌≤◌, ℕ, List, [], length, vec_capacity, slice_get, Some}
use Rattle.dm_mirror.specs.TheMirror.{Mirror}

-- it has taken nothing, and has room for so many mails with their verdicts, and for a receipt of each of so many posters
pub record IsReady (posters expected : ℕ) (mirror : Mirror) : Type 0 where
  pub no_mails : mirror.mails.items ≡ []
  pub no_verdicts : mirror.verdicts.items ≡ []
  pub no_receipts : mirror.receipts.items ≡ []
  pub room_for_mails : expected ≤ vec_capacity mirror.mails
  pub room_for_verdicts : expected ≤ vec_capacity mirror.verdicts
  pub room_for_receipts : posters ≤ vec_capacity mirror.receipts

-- each mail has its place among the verdicts, and each of so many posters its receipt
pub record IsComplete (posters : ℕ) (mirror : Mirror) : Type 0 where
  pub verdicts : length mirror.verdicts.items ≡ length mirror.mails.items
  pub receipts : length mirror.receipts.items ≡ posters

-- so it is of each mirror
abbrev pub AreComplete : ℕ → List Mirror → Type 0
AreComplete posters mirrors = (m : ℕ) (mirror : Mirror) → slice_get mirrors m ≡ Some mirror → IsComplete posters mirror
