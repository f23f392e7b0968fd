-- What `dm apply` answers.
use Rattle.std.specs.Prelude.{◌≡◌, ◌≢◌, ℕ, Bool, true, false, List, [], ◌++◌, Option, MatchOption}
use Rattle.dm_tree.specs.Trees.{Tree}
use Rattle.dm_named.specs.declared.limits.Kinds.{Kinds}
use Rattle.dm_named.specs.declared.limits.Kinds.TheVariants.{Six}
use Rattle.dm_named.specs.declared.limits.Limits.{Limits}
use Rattle.dm_named.specs.Patches.{Patch}
use Rattle.dm_bundle.specs.Canonical.{bundle_text}
use Rattle.dm_repo.specs.declared.policy.Policy.{Policy}
use Rattle.dm_repo.specs.declared.policy.Policy.TheVariants.{Refuse}
use Rattle.dm_repo.specs.declared.refusal.Refusal.TheVariants as refusals
use Rattle.dm_repo.specs.Repositories.{IsTreeOf}
use Rattle.dm_scratch.specs.declared.verdict.Verdict.{Verdict}
use Rattle.dm_scratch.specs.declared.verdict.Verdict.TheVariants.{Refused}
use Rattle.dm_scratch.specs.Taking.{TakesIn, TakesWithin, IsAccepted}
use Rattle.dm_scratch.specs.Words.{verdict_text}
use Rattle.dm_commands.specs.declared.apply.Applied.{Applied}
use Rattle.dm_commands.specs.declared.base.Base.{Base}
use Rattle.dm_commands.specs.declared.fault.ToolFault.{ToolFault}
use Rattle.dm_commands.specs.declared.fault.ToolFault.TheVariants.{NoMemory, BadBase}
use Rattle.dm_scratch.specs.Printing.{line_of, listing_text}
use Rattle.dm_commands.specs.Streams.{Gives}
use Rattle.dm_commands.specs.Printing.{status_of}

-- the base's text, read within these limits, is taken into an empty repository, where conflicts are refused, and that then holds these patches
pub record IsBase (limits : Limits) (text : List ℕ) (repo : List Patch) : Type 0 where
  pub verdict : Verdict
  pub accepted : IsAccepted verdict
  pub takes : TakesWithin limits [] text Refuse verdict repo

-- the repository that is begun with: an empty one where there is no base, else the one that has taken its text
abbrev pub IsStart : Option Base → List Patch → Type 0
IsStart base repo = MatchOption base (repo ≡ []) (λ b. IsBase b.limits b.text.now repo)

-- the base's text, read within these limits, isn't taken: memory ran out, or this verdict
abbrev pub RefusesBase : Limits → List ℕ → ToolFault → Type 0
RefusesBase limits text NoMemory = Unit {0}
RefusesBase limits text (BadBase verdict) =
    (IsAccepted verdict → ⊥) × (verdict ≢ Refused refusals.NoMemory) × TakesWithin limits [] text Refuse verdict []
RefusesBase limits text other = ⊥

-- there is a base, and it isn't taken
abbrev pub RefusesStart : Option Base → ToolFault → Type 0
RefusesStart base e = MatchOption base ⊥ (λ b. RefusesBase b.limits b.text.now e)

-- what is shown of a repository: its canonical bundle with an empty context, or the listing of its tree
abbrev pub Shows : Bool → List Patch → List ℕ → Type 0
Shows true repo shown = shown ≡ bundle_text (record { patches = repo; context = [] })
Shows false repo shown = (tree : Tree) × IsTreeOf repo tree × (shown ≡ listing_text tree)

-- these bytes are the line of the verdict, and what is shown of the repository
pub record Prints (as_bundle : Bool) (verdict : Verdict) (repo : List Patch) (out : List ℕ) : Type 0 where
  pub shown : List ℕ
  pub shows : Shows as_bundle repo shown
  pub bytes : out ≡ line_of (verdict_text verdict) ++ shown

-- a text that is read with these kinds of primitives, and taken under a policy into the repository of these patches, is answered by these bytes and this exit status
pub record AnswersIn (kinds : Kinds) (repo : List Patch) (as_bundle : Bool) (policy : Policy) (text out : List ℕ) (status : ℕ) : Type 0 where
  pub verdict : Verdict
  pub after : List Patch
  pub takes : TakesIn kinds repo text policy verdict after
  pub prints : Prints as_bundle verdict after out
  pub exit : status ≡ status_of verdict

-- so is the text that the reader gave, taken into the repository that this base makes
pub record AnswersInputIn (kinds : Kinds) (base : Option Base) (as_bundle : Bool) (policy : Policy) (before after : Option (List ℕ)) (out : List ℕ) (status : ℕ) : Type 0 where
  pub start : List Patch
  pub text : List ℕ
  pub is_start : IsStart base start
  pub gives : Gives before after text
  pub answers : AnswersIn kinds start as_bundle policy text out status

-- the same, with the six kinds
abbrev pub AnswersInput : Option Base → Bool → Policy → Option (List ℕ) → Option (List ℕ) → List ℕ → ℕ → Type 0
AnswersInput base as_bundle policy before after out status = AnswersInputIn Six base as_bundle policy before after out status

-- What is told of it: the text that the reader gave was read with these kinds of primitives, and taken into the repository that this base makes, with this verdict, and
-- left this repository.
pub record IsAppliedIn (kinds : Kinds) (base : Option Base) (policy : Policy) (before after : Option (List ℕ)) (applied : Applied) : Type 0 where
  pub start : List Patch
  pub is_start : IsStart base start
  pub gives : Gives before after applied.text.items
  pub takes : TakesIn kinds start applied.text.items policy applied.verdict applied.repo.patches
  pub exit : applied.status ≡ status_of applied.verdict

-- the same, with the six kinds
abbrev pub IsApplied : Option Base → Policy → Option (List ℕ) → Option (List ℕ) → Applied → Type 0
IsApplied base policy before after applied = IsAppliedIn Six base policy before after applied
