-- What is given to somebody who holds other patches.
use Rattle.std.specs.Prelude.{◌≡◌, ◌≢◌, ℕ, Bool, true, false, List, [], ◌++◌, Option, Some, None, Result, Ok, Err}
use Rattle.std.specs.Global.{Vec}
use Rattle.dm_info.specs.PatchInfo.{PatchInfo}
use Rattle.dm_named.specs.declared.fault.FaultKind.TheVariants as kind
use Rattle.dm_named.specs.declared.fault.ReadFault.{ReadFault}
use Rattle.dm_named.specs.declared.limits.Kinds.{Kinds}
use Rattle.dm_named.specs.declared.limits.Limits.{Limits}
use Rattle.dm_named.specs.Patches.{Patch}
use Rattle.dm_bundle.specs.Bundles.{BundleTextIn, Contents}
use Rattle.dm_bundle.specs.Canonical.{bundle_text}
use Rattle.dm_bundle.specs.Patches.{AreAllOf}
use Rattle.dm_hash.specs.Trailers.{trailer_text}
use Rattle.dm_repo.specs.declared.refusal.Refusal.{Refusal}
use Rattle.dm_repo.specs.declared.refusal.Refusal.TheVariants as refusals
use Rattle.dm_repo.specs.Repositories.{Repository}
use Rattle.dm_scratch.specs.declared.verdict.Verdict.{Verdict}
use Rattle.dm_scratch.specs.declared.verdict.Verdict.TheVariants.{Malformed, Refused}
use Rattle.dm_send.specs.Sending.{RefusesToSend, RefusesToSendMinimal, Sends, SendsMinimal}
use Rattle.dm_send.specs.Telling.{IsNamesFault, TellsNames}
use Rattle.dm_c.specs.declared.numbers.LimitNumbers.{LimitNumbers}
use Rattle.dm_c.specs.declared.numbers.VerdictNumbers.{VerdictNumbers}
use Rattle.dm_c.specs.declared.status.Status.{Status}
use Rattle.dm_c.specs.declared.status.Status.TheVariants.{Done, Nothing, BadNumber, NoRepo}
use Rattle.dm_c.specs.Buffers.{Gives, GivesNothing}
use Rattle.dm_c.specs.Calls.{AreNoLimits, IsTold}
use Rattle.dm_c.specs.Numbers.{limit_numbers, status_number, status_of}

-- so many patches are sent at most: as many as C can count
abbrev pub most : ℕ
most = 18446744073709551615

-- a bundle for somebody who holds patches of these names: a minimal one, or not
abbrev pub SendsFor : Bool → List Patch → List PatchInfo → Contents → Type 0
SendsFor true repo names b = SendsMinimal repo 0 names most b
SendsFor false repo names b = Sends repo names most b

-- why there is none
abbrev pub RefusesFor : Bool → List Patch → List PatchInfo → Refusal → Type 0
RefusesFor true repo names why = RefusesToSendMinimal repo 0 names most why
RefusesFor false repo names why = RefusesToSend repo names most why

-- the verdict is that a bundle is refused for this reason
abbrev pub IsNoBundle : Bool → List Patch → List PatchInfo → Verdict → Type 0
IsNoBundle is_minimal repo names verdict = (why : Refusal) × RefusesFor is_minimal repo names why × (verdict ≡ Refused why)

-- the verdict is that a text tells no names, for this fault, or that memory ran out
pub data IsNoNames (limits : Limits) (theirs : List ℕ) (verdict : Verdict) : Type 0 where
  untold : (fault : ReadFault) → fault.kind ≢ kind.NoMemory → IsNamesFault limits theirs fault → verdict ≡ Malformed fault → IsNoNames limits theirs verdict
  unread : verdict ≡ Refused refusals.NoMemory → IsNoNames limits theirs verdict

-- the text of a bundle with the hash of its patches, which stands for it with any kinds that its primitives have
pub record IsHashed (b : Contents) (text : List ℕ) : Type 0 where
  pub is_text : text ≡ bundle_text b ++ trailer_text b.patches
  pub stands : (kinds : Kinds) → AreAllOf kinds b.patches → BundleTextIn kinds text b

-- the text of a bundle that has new patches, or nothing for one that has none
abbrev pub IsSent : Contents → Option (Vec ℕ) → Type 0
IsSent b (Some text) = (b.patches ≢ []) × IsHashed b text.items
IsSent b None = b.patches ≡ []

-- what is made for somebody who tells these names: the text of the bundle for them, or nothing where they have all
pub record IsSentTo (limits : Limits) (is_minimal : Bool) (repo : List Patch) (theirs : List ℕ) (made : Option (Vec ℕ)) : Type 0 where
  pub names : List PatchInfo
  pub tells : TellsNames limits theirs names
  pub bundle : Contents
  pub sends : SendsFor is_minimal repo names bundle
  pub sent : IsSent bundle made

-- why nothing is made: no names are told, or there is no bundle for these, or memory ran out
pub data IsNotSent (limits : Limits) (is_minimal : Bool) (repo : List Patch) (theirs : List ℕ) (verdict : Verdict) : Type 0 where
  no_names : IsNoNames limits theirs verdict → IsNotSent limits is_minimal repo theirs verdict
  no_bundle : (names : List PatchInfo) → TellsNames limits theirs names → IsNoBundle is_minimal repo names verdict → IsNotSent limits is_minimal repo theirs verdict
  no_text : verdict ≡ Refused refusals.NoMemory → IsNotSent limits is_minimal repo theirs verdict

-- a text that was made is given; where there is none, nothing is, and a verdict that says why is told with its status, unless memory ran out
abbrev pub GivesMade : Result (Option (Vec ℕ)) Verdict → List ℕ → List ℕ → ℕ → ℕ → VerdictNumbers → VerdictNumbers → Status → Type 0
GivesMade (Ok (Some text)) old new needed needed' verdict verdict' status = Gives Done text.items old new needed' (status_number status) × (verdict' ≡ verdict)
GivesMade (Ok None) old new needed needed' verdict verdict' status = GivesNothing Nothing old new needed needed' (status_number status) × (verdict' ≡ verdict)
GivesMade (Err why) old new needed needed' verdict verdict' status = GivesNothing (status_of why) old new needed needed' (status_number status) × IsTold why verdict verdict'

-- what is made to be sent from this repository is given
pub data GivesSent (limits : Limits) (is_minimal : Bool) (repo : List Patch) (theirs old new : List ℕ) (needed needed' : ℕ) (verdict verdict' : VerdictNumbers) (status : ℕ) : Type 0 where
  sent : (made : Option (Vec ℕ)) → IsSentTo limits is_minimal repo theirs made → (s : Status) → GivesMade (Ok made) old new needed needed' verdict verdict' s → status ≡ status_number s
      → GivesSent limits is_minimal repo theirs old new needed needed' verdict verdict' status
  not_sent : (why : Verdict) → IsNotSent limits is_minimal repo theirs why → (s : Status) → GivesMade (Err why) old new needed needed' verdict verdict' s → status ≡ status_number s
      → GivesSent limits is_minimal repo theirs old new needed needed' verdict verdict' status

-- so it is from the repository that is held, for limits in numbers; unless these are none, or none is held
pub data SendsFrom (numbers : LimitNumbers) (is_minimal : Bool) (repo : Option Repository) (theirs old new : List ℕ) (needed needed' : ℕ) (verdict verdict' : VerdictNumbers) (status : ℕ) : Type 0 where
  within : (limits : Limits) → limit_numbers limits ≡ numbers → (r : Repository) → repo ≡ Some r
      → GivesSent limits is_minimal r.patches theirs old new needed needed' verdict verdict' status
      → SendsFrom numbers is_minimal repo theirs old new needed needed' verdict verdict' status
  bad_number : AreNoLimits numbers → GivesNothing BadNumber old new needed needed' status → verdict' ≡ verdict
      → SendsFrom numbers is_minimal repo theirs old new needed needed' verdict verdict' status
  no_repo : repo ≡ None → GivesNothing NoRepo old new needed needed' status → verdict' ≡ verdict
      → SendsFrom numbers is_minimal repo theirs old new needed needed' verdict verdict' status
