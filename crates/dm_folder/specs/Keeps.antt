-- What a folder told stays told.
use Rattle.std.specs.Prelude.{ℕ, List}
use Rattle.dm_folder.specs.Found.{Told}
use Rattle.dm_folder.specs.declared.fault.Trouble.{Trouble}

-- what was told of a place before is told of it still
pub record Keeps (lists more_lists : List ℕ → List Told → Type 0) (holds more_holds : List ℕ → List ℕ → Type 0) (fails more_fails : List ℕ → Trouble → Type 0) : Type 0 where
  pub lists_stay : (place : List ℕ) (found : List Told) → lists place found → more_lists place found
  pub holds_stay : (place bytes : List ℕ) → holds place bytes → more_holds place bytes
  pub fails_stay : (place : List ℕ) (trouble : Trouble) → fails place trouble → more_fails place trouble
