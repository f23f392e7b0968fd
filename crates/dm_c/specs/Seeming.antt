-- Which value numbers would be of, for private functions: `Numbers` says of which they are.
use Rattle.std.specs.Prelude.{ℕ, List, [], ◌∷◌, Option, Some, None, slice_get}
use Rattle.dm_named.specs.declared.fault.FaultKind.{FaultKind}
use Rattle.dm_named.specs.declared.fault.FaultKind.TheVariants as faults
use Rattle.dm_repo.specs.declared.refusal.Refusal.{Refusal}
use Rattle.dm_repo.specs.declared.refusal.Refusal.TheVariants as refusals
use Rattle.dm_scratch.specs.declared.verdict.Verdict.{Verdict}
use Rattle.dm_scratch.specs.declared.verdict.Verdict.TheVariants.{Taken, TakenSome, NothingNew, Malformed, Refused}
use Rattle.dm_c.specs.declared.numbers.VerdictNumbers.{VerdictNumbers}

-- what an option has
abbrev pub inner : {T : Type 0} → Option (Option T) → Option T
inner (Some o) = o
inner None = None

-- what stands at a place of a table, if anything
abbrev pub in_table : {T : Type 0} → List (Option T) → ℕ → Option T
in_table table n = inner (slice_get table n)

-- the faults in the order of their numbers; out of memory is never told
abbrev pub told_faults : List (Option FaultKind)
told_faults =
    Some faults.TooLarge ∷ Some faults.NoNewPatches ∷ Some faults.BadInfo ∷ Some faults.Inverted ∷ Some faults.BadDepends ∷ Some faults.BadPatch ∷
    Some faults.Unsupported ∷ Some faults.BadPath ∷ Some faults.BadNumber ∷ Some faults.EmptyHunk ∷ Some faults.Unclosed ∷ Some faults.NoContext ∷
    Some faults.Doubled ∷ Some faults.TooMany ∷ None ∷ Some faults.BadHex ∷ Some faults.BadPreference ∷ Some faults.BadTokens ∷ []

-- the fault of a number
abbrev pub told_fault : ℕ → Option FaultKind
told_fault n = in_table told_faults n

-- the refusals with these places
abbrev pub told_refusals : ℕ → ℕ → List (Option Refusal)
told_refusals place other =
    Some (refusals.MissingContext place) ∷ Some (refusals.MissingDependency place other) ∷ Some (refusals.ContextDepends place other) ∷
    Some (refusals.HeldDepends place other) ∷ Some (refusals.DoesNotFit place) ∷ Some (refusals.Conflicts place other) ∷ Some refusals.Full ∷ []

-- the refusal that numbers would be of
abbrev pub seeming_refusal : VerdictNumbers → Option Refusal
seeming_refusal n = in_table (told_refusals n.place n.other) n.why

-- the verdict of a fault
abbrev pub malformed_at : ℕ → Option FaultKind → Option Verdict
malformed_at at (Some kind) = Some (Malformed (record { kind = kind; at = at }))
malformed_at at None = None

-- the malformed text that numbers would be of
abbrev pub seeming_malformed : VerdictNumbers → Option Verdict
seeming_malformed n = malformed_at n.at (told_fault n.why)

-- the verdict of a refusal
abbrev pub refused_for : Option Refusal → Option Verdict
refused_for (Some refusal) = Some (Refused refusal)
refused_for None = None

-- the refused bundle that numbers would be of
abbrev pub seeming_refused : VerdictNumbers → Option Verdict
seeming_refused n = refused_for (seeming_refusal n)

-- the verdict that numbers would be of
abbrev pub seeming : VerdictNumbers → Option Verdict
seeming n = in_table (Some (Taken n.taken) ∷ Some (TakenSome n.taken n.skipped) ∷ Some NothingNew ∷ seeming_malformed n ∷ seeming_refused n ∷ []) n.kind
