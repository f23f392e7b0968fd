-- Marks beside a list of patch infos.
use Rattle.std.specs.Prelude.{◌≡◌, ◌↔◌, ◌⊎◌, ℕ, Bool, true, List, length, slice_get, Some}
use Rattle.std.specs.List.{Contains}
use Rattle.dm_info.specs.PatchInfo.{PatchInfo}

-- the mark at each place says whether Q holds of the patch info there
pub record AreMarksOf (marks : List Bool) (infos : List PatchInfo) (Q : PatchInfo → Type 0) : Type 0 where
  pub length_is : length marks ≡ length infos
  pub at : (k : ℕ) (i : PatchInfo) → slice_get infos k ≡ Some i → (slice_get marks k ≡ Some true) ↔ Q i

-- new marks are the old ones, and those of what stands in more
pub record AddsMarks (old new : List Bool) (infos more : List PatchInfo) : Type 0 where
  pub length_is : length new ≡ length old
  pub at : (k : ℕ) (i : PatchInfo) → slice_get infos k ≡ Some i →
      (slice_get new k ≡ Some true) ↔ ((slice_get old k ≡ Some true) ⊎ Contains more i)
