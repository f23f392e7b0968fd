-- What `dm apply` answers, by what was done.
use Rattle.std.proofs.Common.{◌≡◌, ◌≢◌, ◌⊎◌, ℕ, Bool, true, false, List, [], ◌++◌, Option, Some, None, inl, inr, refl, subst}
use Rattle.dm_tree.specs.Trees.{Tree}
use Rattle.dm_named.specs.declared.limits.Limits.{Limits}
use Rattle.dm_named.specs.Patches.{Patch}
use Rattle.dm_bundle.specs.Canonical.{bundle_text}
use Rattle.dm_repo.specs.declared.policy.Policy.TheVariants.{Refuse}
use Rattle.dm_repo.specs.declared.refusal.Refusal.TheVariants as refusals
use Rattle.dm_repo.specs.Repositories.{IsTreeOf}
use Rattle.dm_scratch.specs.declared.verdict.Verdict.{Verdict}
use Rattle.dm_scratch.specs.declared.verdict.Verdict.TheVariants.{Refused}
use Rattle.dm_scratch.specs.Taking.{TakesWithin, IsAccepted}
use Rattle.dm_scratch.proofs.KeepLemmas.{refused_keeps}
use Rattle.dm_commands.specs.declared.base.Base.{Base}
use Rattle.dm_commands.specs.declared.fault.ToolFault.{ToolFault}
use Rattle.dm_commands.specs.declared.fault.ToolFault.TheVariants.{Read, NoMemory, BadBase}
use Rattle.dm_scratch.specs.Printing.{listing_text}
use Rattle.dm_commands.specs.Applying.{RefusesBase, RefusesStart, Shows}

pub refuses_base : (limits : Limits) (text : List ℕ) (v : Verdict) (after : List Patch) (e : ToolFault) → (IsAccepted v → ⊥) → TakesWithin limits [] text Refuse v after →
    ((v ≡ Refused refusals.NoMemory) × (e ≡ NoMemory)) ⊎ ((v ≢ Refused refusals.NoMemory) × (e ≡ BadBase v)) → RefusesBase limits text e
refuses_base limits text v after e refused t (inl x) = rw x.1 tt
refuses_base limits text v after e refused t (inr x) = rw x.1 (refused, x.0, subst (TakesWithin limits [] text Refuse v) (refused_keeps limits [] text v after refused t) t)

pub base_is_not_read : (base : Option Base) (e : ToolFault) → RefusesStart base e → e ≢ Read
base_is_not_read None e h = absurd h
base_is_not_read (Some b) e h = λ p. subst (RefusesBase b.limits b.text.now) p h

pub shows_bundle : (as_bundle : Bool) (repo : List Patch) (old new : List ℕ) → as_bundle ≡ true → new ≡ old ++ bundle_text (record { patches = repo; context = [] }) →
    (shown : List ℕ) × Shows as_bundle repo shown × (new ≡ old ++ shown)
shows_bundle as_bundle repo old new e is = rw e (bundle_text (record { patches = repo; context = [] }), refl, is)

pub shows_listing : (as_bundle : Bool) (repo : List Patch) (tree : Tree) (old new : List ℕ) → as_bundle ≡ false → IsTreeOf repo tree →
    new ≡ old ++ listing_text tree → (shown : List ℕ) × Shows as_bundle repo shown × (new ≡ old ++ shown)
shows_listing as_bundle repo tree old new e makes is = rw e (listing_text tree, (tree, makes, refl), is)
