-- What taking a text does, by what was read of it.
use Rattle.std.proofs.Common.{◌≡◌, ◌≢◌, ◌<◌, ℕ, List, length, inl, inr, arith, Ok}
use Rattle.std.specs.Result.{IsErrOf}
use Rattle.dm_named.specs.declared.limits.Limits.{Limits}
use Rattle.dm_named.specs.declared.fault.FaultKind.TheVariants as kind
use Rattle.dm_named.specs.declared.fault.ReadFault.{ReadFault}
use Rattle.dm_named.specs.Patches.{Patch}
use Rattle.dm_bundle.specs.Patches.{AreFewWithin}
use Rattle.dm_bundle.specs.Bundles.{Contents, BundleTextIn}
use Rattle.dm_bundle.specs.Faults.{FaultWithin}
use Rattle.dm_repo.specs.declared.policy.Policy.{Policy}
use Rattle.dm_scratch.specs.declared.verdict.Verdict.{Verdict}
use Rattle.dm_scratch.specs.Taking.{ReadsWithin, TakesWithin, malformed, no_memory, IsUnread}

pub no_err : {T E : Type 0} (x : T) (e : E) → IsErrOf (Ok x) e → ⊥
no_err x e is = cc

-- a text that was read is not too large
pub reads : (limits : Limits) (text : List ℕ) (b : Contents) → BundleTextIn limits.kinds text b → AreFewWithin limits b.patches → (limits.bytes < length text → ⊥) → ReadsWithin limits text b
reads limits text b stands few small = record { stands = stands; small = omega (arith, small); few = few }

pub unread_takes : (limits : Limits) (repo : List Patch) (text : List ℕ) (fault : ReadFault) (policy : Policy) (v : Verdict) (after : List Patch) → (fault.kind ≢ kind.NoMemory → FaultWithin limits text fault.kind fault.at)
    → IsUnread fault v → after ≡ repo → TakesWithin limits repo text policy v after
unread_takes limits repo text fault policy v after at (inl x) same = malformed fault (at x.0) x.1 same
unread_takes limits repo text fault policy v after at (inr x) same = no_memory x.1 same
