-- What came of the calls of a writer, each with its outcome.
use Rattle.std.specs.Prelude.{◌≡◌, ◌==◌, ℕ, if◌then◌else◌, List, [], ◌∷◌, ◌++◌, slice_index}

-- one call of a writer
pub data Call : Type 0 where
  -- it took these bytes
  wrote : (bytes : List ℕ) → Call
  -- all that it had taken was flushed
  flushed : Call
  -- it returned an error, or took no byte
  failed : Call

-- the call that the kind and the bytes stand for
abbrev pub call_of : List ℕ → List ℕ → Call
call_of numbers bytes =
    if slice_index numbers 0 == 0 then wrote bytes else
    if slice_index numbers 0 == 1 then flushed else
    failed

-- the bytes that the writer took. The newest call comes first.
abbrev pub taken_bytes : List Call → List ℕ
taken_bytes [] = []
taken_bytes (wrote bytes ∷ earlier) = taken_bytes earlier ++ bytes
taken_bytes (flushed ∷ earlier) = taken_bytes earlier
taken_bytes (failed ∷ earlier) = taken_bytes earlier

-- the calls since then took these bytes, and the last of them flushed them
pub record Flushes (old new : List Call) (bytes : List ℕ) : Type 0 where
  pub since : List Call
  pub is : new ≡ flushed ∷ (since ++ old)
  pub took : taken_bytes since ≡ bytes

-- the calls since then took these bytes, and the last of them failed
pub record Fails (old new : List Call) (bytes : List ℕ) : Type 0 where
  pub since : List Call
  pub is : new ≡ failed ∷ (since ++ old)
  pub took : taken_bytes since ≡ bytes
