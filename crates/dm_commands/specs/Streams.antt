-- What was read of a reader, and what was written of an answer.
use Rattle.std.specs.Prelude.{◌≡◌, ◌≢◌, ◌+◌, ◌≤◌, ◌⊎◌, ℕ, List, length, take, Option}
use Rattle.dm_named.specs.Limits.{standard}
use Rattle.dm_named.specs.declared.limits.Limits.{Limits}
use Rattle.std.specs.Io.KnownBytes.{Appends, Consumes, IsAtEnd}

-- The reader gave this text: all that it had left, or its first bytes, one more than a text may have by these limits.
pub record GivesWithin (limits : Limits) (before after : Option (List ℕ)) (text : List ℕ) : Type 0 where
  pub bytes : Consumes before after text
  pub few : length text ≤ limits.bytes + 1
  pub whole : (length text ≡ limits.bytes + 1) ⊎ IsAtEnd after

-- the same by the standard limits
abbrev pub Gives : Option (List ℕ) → Option (List ℕ) → List ℕ → Type 0
Gives before after text = GivesWithin standard before after text

-- an answer was written whole, and this is its exit status
pub record Writes (IsAnswer : List ℕ → ℕ → Type 0) (before after : Option (List ℕ)) (status : ℕ) : Type 0 where
  pub out : List ℕ
  pub answers : IsAnswer out status
  pub written : Appends before after out

-- what was written is a prefix of an answer
pub record WritesPrefix (IsAnswer : List ℕ → ℕ → Type 0) (before after : Option (List ℕ)) : Type 0 where
  pub out : List ℕ
  pub status : ℕ
  pub count : ℕ
  pub answers : IsAnswer out status
  pub written : Appends before after (take count out)

-- of two writers the first got this text where the status is 0, else the other; the one that got nothing is as it was
abbrev pub AppendsApart : Option (List ℕ) → Option (List ℕ) → Option (List ℕ) → Option (List ℕ) → ℕ → List ℕ → Type 0
AppendsApart before after other_before other_after status text =
    ((status ≡ 0) × (Appends before after text × (other_after ≡ other_before)))
    ⊎ ((status ≢ 0) × ((after ≡ before) × Appends other_before other_after text))

-- an answer was written whole to one of two writers, by its exit status
pub record WritesApart (IsAnswer : List ℕ → ℕ → Type 0) (before after other_before other_after : Option (List ℕ)) (status : ℕ) : Type 0 where
  pub out : List ℕ
  pub answers : IsAnswer out status
  pub written : AppendsApart before after other_before other_after status out

-- what was written, to one of two writers, is a prefix of an answer
pub record WritesPrefixApart (IsAnswer : List ℕ → ℕ → Type 0) (before after other_before other_after : Option (List ℕ)) : Type 0 where
  pub out : List ℕ
  pub status : ℕ
  pub count : ℕ
  pub answers : IsAnswer out status
  pub written : AppendsApart before after other_before other_after status (take count out)
