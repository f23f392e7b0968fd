-- A text that was made is given.
use Rattle.std.proofs.Common.{◌≡◌, ◌⊎◌, inl, ℕ, List, Option, Some, Result, Ok, Err, IfOk, IfErr, MatchResult}
use Rattle.dm_named.specs.Patches.{Patch}
use Rattle.dm_repo.specs.Repositories.{Repository}
use Rattle.dm_c.specs.Calls.{GivesOf, of_held}
use Rattle.std.specs.Global.{Vec}
use Rattle.dm_c.specs.declared.status.Status.{Status}
use Rattle.dm_c.specs.declared.status.Status.TheVariants.{Done, NoMemory}
use Rattle.dm_c.specs.Buffers.{Gives, GivesNothing, GivesOr, text, nothing}

pub given : (r : Result (Vec ℕ) Status) (Is : List ℕ → Type 0) (IsWhy : Status → Type 0) (old new : List ℕ) (needed needed' status : ℕ)
    → IfOk r (λ t. Is t.items) → IfErr r IsWhy → MatchResult r (λ t. Gives Done t.items old new needed' status) (λ why. GivesNothing why old new needed needed' status)
    → GivesOr Is IsWhy old new needed needed' status
given (Ok t) Is IsWhy old new needed needed' status is why gives = text t.items is gives
given (Err e) Is IsWhy old new needed needed' status is why gives = nothing e why gives

or_no_other : (r : Result (Vec ℕ) Status) (P : Status → Type 0) → IfErr r (λ why. why ≡ NoMemory) → IfErr r (λ why. (why ≡ NoMemory) ⊎ P why)
or_no_other (Ok t) P e = tt
or_no_other (Err why) P e = inl e

-- so is one of a repository that is held
module _ (Is : List Patch → List ℕ → Type 0) (IsWhy : List Patch → Status → Type 0) (repo : Option Repository) (r : Repository) (made : Result (Vec ℕ) Status)
    (old new : List ℕ) (needed needed' status : ℕ) (holds : repo ≡ Some r)
    (gives : MatchResult made (λ t. Gives Done t.items old new needed' status) (λ why. GivesNothing why old new needed needed' status))
    (is : IfOk made (λ t. Is r.patches t.items)) where
  -- for any reason that it has
  pub given_of_held : IfErr made (λ why. (why ≡ NoMemory) ⊎ IsWhy r.patches why) → GivesOf Is IsWhy repo old new needed needed' status
  given_of_held why = of_held r holds (given made (Is r.patches) (λ w. (w ≡ NoMemory) ⊎ IsWhy r.patches w) old new needed needed' status is why gives)

  -- where only memory can run out
  pub given_or_no_memory : IfErr made (λ why. why ≡ NoMemory) → GivesOf Is IsWhy repo old new needed needed' status
  given_or_no_memory why = given_of_held (or_no_other made (IsWhy r.patches) why)
