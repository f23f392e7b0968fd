-- What the commands answer.
use Rattle.std.specs.Prelude.{◌≡◌, ◌≢◌, ◌⊎◌, ℕ, List, Option, true, IfOk, MatchOption}
use Rattle.std.specs.Borrow.{Bor}
use Rattle.dm_commands.specs.declared.alike.Mirrors.{Mirrors}
use Rattle.dm_commands.specs.declared.running.Ran.{Ran}
use Rattle.dm_named.specs.Patches.{Patch}
use Rattle.dm_commands.specs.Alike.{IsRanAs}
use Rattle.dm_commands.specs.Applying.{IsStart}
use Rattle.dm_commands.specs.declared.base.Base.{Base}
use Rattle.dm_words.specs.Requests.{texts_in}
use Rattle.dm_words.specs.declared.request.Apply.{Apply}
use Rattle.dm_words.specs.declared.request.Run.{Run}
use Rattle.dm_words.specs.declared.request.Request.{Request}
use Rattle.dm_words.specs.declared.request.Request.TheVariants as requests
use Rattle.dm_named.specs.declared.limits.Kinds.TheVariants.{Six}
use Rattle.dm_files.specs.Bases.{AreAlike, IsBaseOrEmpty, IsReadAs, named_base}
use Rattle.dm_files.specs.declared.files.BaseFile.{BaseFile}
use Rattle.dm_files.specs.Named.{kinds_for, policy_for}
use Rattle.dm_files.specs.Mirrors.{IsApplied, IsAppliedTo}
use Rattle.dm_files.specs.Beginning.{IsBegun}
use Rattle.dm_files.specs.Obliterating.{IsObliterated}
use Rattle.dm_files.specs.declared.outcome.Outcome.{Outcome}
use Rattle.dm_tool.specs.Posters.{AreRead, AreSplit, ReadWord, by_poster, texts_sent}
use Rattle.dm_tool.specs.Held.{words_in}

-- `dm run` ran this: each word names a poster and a file, each poster sends the texts of its files in the order of the words, and the mirrors are as many, with
-- the bound and the policy, as is asked for
pub record IsRun (had : List ℕ → List ℕ → Type 0) (asked : Run) (status : ℕ) : Type 0 where
  pub pairs : List (Bor (List ℕ) × Bor (List ℕ))
  pub split : AreSplit (texts_in asked.posters) (words_in pairs)
  pub read : List ReadWord
  pub are_read : AreRead had pairs read
  pub file : Option BaseFile
  pub file_read : IsReadAs had Six (named_base asked.base.base asked.base.repository) file
  pub mirrors : Mirrors
  pub base : IsBaseOrEmpty file mirrors.base
  pub policy : mirrors.policy ≡ policy_for asked.skip
  pub count : mirrors.count ≡ asked.mirrors
  pub bound : mirrors.bound ≡ asked.bound
  pub ran : Ran
  pub is_ran : IsRanAs (texts_sent (by_poster read)) mirrors ran
  pub exit : status ≡ ran.status

-- more is asked of `dm apply` than the answer to one bundle, and the listing
abbrev pub AsksMore : Apply → Type 0
AsksMore asked = (asked.hash ≡ true) ⊎ ((asked.quiet ≡ true) ⊎ (asked.json ≡ true))

-- all that is named was taken into the repository of a base
pub record IsTakenAfter (had : List ℕ → List ℕ → Type 0) (base : Option Base) (asked : Apply) (status : ℕ) : Type 0 where
  pub start : List Patch
  pub is_start : IsStart base start
  pub applied : IsAppliedTo had asked start status

-- the base is the file that is named
pub record IsTaken (had : List ℕ → List ℕ → Type 0) (asked : Apply) (status : ℕ) : Type 0 where
  pub file : Option BaseFile
  pub file_read : IsReadAs had (kinds_for asked.all_kinds) (named_base asked.base.base asked.base.repository) file
  pub base : Option Base
  pub alike : AreAlike file base
  pub taken : IsTakenAfter had base asked status

-- what is promised of what comes of a command, where a relation says which text a file had
abbrev pub IsAnswered : (List ℕ → List ℕ → Type 0) → Request → Outcome → Type 0
IsAnswered had (requests.Apply asked) outcome =
    MatchOption asked.mirror (IfOk outcome.answer (λ status. status ≢ 2 → AsksMore asked → IsTaken had asked status)) (λ name. IsApplied had asked name.now outcome)
IsAnswered had (requests.Init asked) outcome = IsBegun had asked outcome
IsAnswered had (requests.Obliterate asked) outcome = IsObliterated asked outcome
IsAnswered had (requests.Run asked) outcome = IfOk outcome.answer (λ status. status ≢ 2 → IsRun had asked status)
IsAnswered had other outcome = Unit {0}
