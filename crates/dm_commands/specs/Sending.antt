-- What `dm send` answers.
use Rattle.std.specs.Prelude.{◌≡◌, ◌≢◌, ◌⊎◌, ℕ, Bool, true, false, List, [], ◌++◌, length, Option, MatchOption}
use Rattle.dm_info.specs.PatchInfo.{PatchInfo}
use Rattle.dm_named.specs.Laws.{with_kinds}
use Rattle.dm_named.specs.Limits.{standard}
use Rattle.dm_named.specs.declared.limits.Kinds.{Kinds}
use Rattle.dm_named.specs.declared.limits.Limits.{Limits}
use Rattle.dm_named.specs.Patches.{Patch}
use Rattle.dm_bundle.specs.Bundles.{Contents}
use Rattle.dm_bundle.specs.Canonical.{bundle_text}
use Rattle.dm_hash.specs.Trailers.{trailer_text}
use Rattle.dm_bundle.specs.Faults.{IsWithinSize}
use Rattle.dm_bundle.specs.Patches.{AreAllOf, AreFewWithin}
use Rattle.dm_repo.specs.declared.refusal.Refusal.{Refusal}
use Rattle.dm_repo.specs.declared.refusal.Refusal.TheVariants as refusals
use Rattle.dm_repo.specs.Repositories.{Holds}
use Rattle.dm_scratch.specs.declared.verdict.Verdict.TheVariants.{Refused}
use Rattle.dm_scratch.specs.Taking.{ReadsWithin}
use Rattle.dm_scratch.specs.Words.{verdict_text}
use Rattle.dm_scratch.specs.Printing.{line_of}
use Rattle.dm_begin.specs.Bases.{CutsBase, KnowsBase, MayHaveBase}
use Rattle.dm_deliver.specs.declared.answers.Answer.TheVariants.{BeforeBase}
use Rattle.dm_deliver.specs.Answering.{answer_line}
use Rattle.dm_send.specs.Sending.{IsDivided, Parts, RefusesToSend, RefusesToSendMinimal, Sends, SendsMinimal, TakesAs}
use Rattle.dm_send.specs.Telling.{IsNamesFault, TellsNames}
use Rattle.dm_commands.specs.declared.fault.ToolFault.{ToolFault}
use Rattle.dm_commands.specs.declared.fault.ToolFault.TheVariants.{NoMemory, BadNames, TooManyToSend}
use Rattle.dm_commands.specs.declared.send.Sent.{Sent}
use Rattle.dm_commands.specs.declared.base.Base.{Base}

-- a bundle for somebody who holds patches of these names: a minimal one, or not
abbrev pub SendsFor : Bool → List Patch → ℕ → List PatchInfo → ℕ → Contents → Type 0
SendsFor true repo base names most b = SendsMinimal repo base names most b
SendsFor false repo base names most b = Sends repo names most b

-- why there is none
abbrev pub RefusesToSendFor : Bool → List Patch → ℕ → List PatchInfo → ℕ → Refusal → Type 0
RefusesToSendFor true repo base names most why = RefusesToSendMinimal repo base names most why
RefusesToSendFor false repo base names most why = RefusesToSend repo names most why

-- nothing is sent, though memory is ample
abbrev pub IsRefusedFor : Bool → List Patch → ℕ → List PatchInfo → ℕ → Refusal → Type 0
IsRefusedFor is_minimal repo base names most why = (why ≢ refusals.NoMemory) × RefusesToSendFor is_minimal repo base names most why

-- the canonical text of a bundle, and behind it the hash of its patches
abbrev pub hashed_text : Contents → List ℕ
hashed_text b = bundle_text b ++ trailer_text b.patches

-- A bundle for the same, that names of the base of the repository the last patch alone. The repository of all that is shared takes it, and has then
-- the new patches behind that.
pub record SendsBehind (is_minimal : Bool) (repo : List Patch) (base : ℕ) (names : List PatchInfo) (most : ℕ) (cut : Contents) : Type 0 where
  pub b : Contents
  pub sends : SendsFor is_minimal repo base names most b
  pub cuts : CutsBase repo base b cut
  pub shared : List Patch
  pub new : List Patch
  pub divided : IsDivided repo names most shared new
  pub is_taken : MayHaveBase repo base → TakesAs shared cut new

-- the bundle, of primitives of these kinds, and its text are within the limits of what is read
pub record IsWithinLimits (kinds : Kinds) (b : Contents) : Type 0 where
  pub few : AreFewWithin (with_kinds standard kinds) b.patches
  pub of_kinds : AreAllOf kinds b.patches
  pub small : IsWithinSize (hashed_text b)

-- To somebody who holds patches of these names these bytes and this exit status are answered: where they have the whole base of the
-- repository, the text of the bundle for them with the hash of its patches, which is read with these kinds of primitives as that bundle, or the
-- line of why there is none; else the line that they don't have it.
pub data AnswersNames (kinds : Kinds) (is_minimal : Bool) (repo : List Patch) (base : ℕ) (names : List PatchInfo) (most : ℕ) (out : List ℕ) (status : ℕ) : Type 0 where
  sent : KnowsBase repo base names → (b : Contents) → SendsBehind is_minimal repo base names most b → out ≡ hashed_text b → ReadsWithin (with_kinds standard kinds) out b
      → status ≡ 0 → AnswersNames kinds is_minimal repo base names most out status
  refused : KnowsBase repo base names → (why : Refusal) → IsRefusedFor is_minimal repo base names most why → out ≡ line_of (verdict_text (Refused why)) → status ≡ 1
      → AnswersNames kinds is_minimal repo base names most out status
  before_base : (KnowsBase repo base names → ⊥) → out ≡ answer_line BeforeBase → status ≡ 1 → AnswersNames kinds is_minimal repo base names most out status

-- the names of what somebody holds: those that their text tells, and none without a text
abbrev pub TheirNames : Option Base → List PatchInfo → Type 0
TheirNames theirs names = MatchOption theirs (names ≡ []) (λ t. TellsNames t.limits t.text.now names)

-- so is it to somebody of whom a text tells what they hold, or who holds nothing
pub record AnswersTexts (kinds : Kinds) (is_minimal : Bool) (repo : List Patch) (base : ℕ) (theirs : Option Base) (most : ℕ) (out : List ℕ) (status : ℕ) : Type 0 where
  pub names : List PatchInfo
  pub tells : TheirNames theirs names
  pub answers : AnswersNames kinds is_minimal repo base names most out status

-- there is no bundle: they don't have the whole base, or nothing is sent
abbrev pub HasNoBundle : Bool → List Patch → ℕ → List PatchInfo → ℕ → Type 0
HasNoBundle is_minimal repo base names most = (KnowsBase repo base names → ⊥) ⊎ (KnowsBase repo base names × ((why : Refusal) × IsRefusedFor is_minimal repo base names most why))

-- so many new patches are sent, or there is no bundle
abbrev pub SendsCount : Bool → List Patch → ℕ → List PatchInfo → ℕ → Option ℕ → Type 0
SendsCount is_minimal repo base names most new = MatchOption new
    (HasNoBundle is_minimal repo base names most)
    (λ count. KnowsBase repo base names × ((b : Contents) × SendsFor is_minimal repo base names most b × (count ≡ length b.patches)))

-- so many of the names aren't held
abbrev pub CountsUnheld : List Patch → List PatchInfo → ℕ → Type 0
CountsUnheld repo names count = (held : List PatchInfo) × (unheld : List PatchInfo) × Parts (Holds repo) names held unheld × (count ≡ length unheld)

-- a refusal that is told is one for which nothing is sent
abbrev pub TellsWhy : Bool → List Patch → ℕ → List PatchInfo → ℕ → Option Refusal → Type 0
TellsWhy is_minimal repo base names most told = MatchOption told (Unit {0}) (λ why. IsRefusedFor is_minimal repo base names most why)

-- what is told of the answer: how many new patches are sent, if any, how many names aren't held, and why nothing is sent
pub record TellsNumbers (is_minimal : Bool) (repo : List Patch) (base : ℕ) (names : List PatchInfo) (most : ℕ) (sent : Sent) : Type 0 where
  pub new : SendsCount is_minimal repo base names most sent.new
  pub unheld : CountsUnheld repo names sent.unheld
  pub why : TellsWhy is_minimal repo base names most sent.why

-- so it is of the answer to somebody of whom a text tells what they hold, or who holds nothing
pub record TellsTexts (is_minimal : Bool) (repo : List Patch) (base : ℕ) (theirs : Option Base) (most : ℕ) (sent : Sent) : Type 0 where
  pub names : List PatchInfo
  pub tells : TheirNames theirs names
  pub numbers : TellsNumbers is_minimal repo base names most sent

-- the text, read within these limits, tells no names: memory ran out, or it has this fault
abbrev pub RefusesNames : Limits → List ℕ → ToolFault → Type 0
RefusesNames limits theirs NoMemory = Unit {0}
RefusesNames limits theirs (BadNames fault) = IsNamesFault limits theirs fault
RefusesNames limits theirs other = ⊥

-- there is a text, and it tells no names
abbrev pub RefusesTheirs : Option Base → ToolFault → Type 0
RefusesTheirs theirs e = MatchOption theirs ⊥ (λ t. RefusesNames t.limits t.text.now e)

-- they have the whole base, and the bundle is past a limit
abbrev pub IsPastLimits : Kinds → Bool → List Patch → ℕ → List PatchInfo → ℕ → Type 0
IsPastLimits kinds is_minimal repo base names most = KnowsBase repo base names × ((b : Contents) × SendsBehind is_minimal repo base names most b × (IsWithinLimits kinds b → ⊥))

-- Why there is no answer: memory ran out; or there is a text and it tells no names; or the bundle is past a limit.
abbrev pub RefusesTexts : Kinds → Bool → List Patch → ℕ → Option Base → ℕ → ToolFault → Type 0
RefusesTexts kinds is_minimal repo base theirs most NoMemory = Unit {0}
RefusesTexts kinds is_minimal repo base theirs most (BadNames fault) = MatchOption theirs ⊥ (λ t. IsNamesFault t.limits t.text.now fault)
RefusesTexts kinds is_minimal repo base theirs most TooManyToSend = (names : List PatchInfo) × TheirNames theirs names × IsPastLimits kinds is_minimal repo base names most
RefusesTexts kinds is_minimal repo base theirs most other = ⊥
