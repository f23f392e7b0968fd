-- What is written to a writer that is watched.
use Rattle.std.specs.Prelude.{◌≡◌, ℕ, take, List, [], ◌∷◌, Option}
use Rattle.std.specs.Io.KnownBytes.{Appends}
use Rattle.dm_deliver.specs.Calls.{Call, Flushes, Fails}
use Rattle.dm_deliver.specs.declared.watched.Watched.{Watched}

-- the bytes that a writer holds, where they are known, and what came of its calls
pub record Output : Type 0 where
  pub contents : Option (List ℕ)
  pub calls : List Call

-- those of a writer that is watched
abbrev pub output : {W : Type 0} → (W → Option (List ℕ)) → Watched W → Output
output contents writer = record { contents = contents writer.writer; calls = writer.calls.list }

-- a line was written, and then flushed
pub record Puts (old new : Output) (line : List ℕ) : Type 0 where
  pub bytes : Appends old.contents new.contents line
  pub flushes : Flushes old.calls new.calls line

-- lines were written, and each was flushed before the next was begun
abbrev pub PutsEach : Output → List (List ℕ) → Output → Type 0
PutsEach old [] new = new ≡ old
PutsEach old (line ∷ lines) new = (mid : Output) × Puts old mid line × PutsEach mid lines new

-- the first so many bytes of a line were written, and then a call of the writer failed
pub record Breaks (old new : Output) (line : List ℕ) : Type 0 where
  pub count : ℕ
  pub bytes : Appends old.contents new.contents (take count line)
  pub fails : Fails old.calls new.calls (take count line)

-- nothing was written, and no call made
abbrev pub IsSilent : Output → Output → Type 0
IsSilent old new = new ≡ old
