-- The numbers that stand for values in C.
use Rattle.std.specs.Prelude.{◌≡◌, ℕ}
use Rattle.dm_named.specs.declared.fault.FaultKind.{FaultKind}
use Rattle.dm_named.specs.declared.fault.FaultKind.TheVariants as faults
use Rattle.dm_named.specs.declared.limits.Kinds.{Kinds}
use Rattle.dm_named.specs.declared.limits.Kinds.TheVariants.{Six, All}
use Rattle.dm_named.specs.declared.limits.Limits.{Limits}
use Rattle.dm_repo.specs.declared.policy.Policy.{Policy}
use Rattle.dm_repo.specs.declared.policy.Policy.TheVariants.{Refuse, Skip}
use Rattle.dm_repo.specs.declared.refusal.Refusal.TheVariants as refusals
use Rattle.dm_repo.specs.declared.refusal.Refusal.{Refusal}
use Rattle.dm_scratch.specs.declared.verdict.Verdict.{Verdict}
use Rattle.dm_scratch.specs.declared.verdict.Verdict.TheVariants.{Taken, TakenSome, NothingNew, Malformed, Refused}
use Rattle.dm_c.specs.declared.status.Status.{Status}
use Rattle.dm_c.specs.declared.status.Status.TheVariants as answers
use Rattle.dm_c.specs.declared.numbers.LimitNumbers.{LimitNumbers}
use Rattle.dm_c.specs.declared.numbers.VerdictNumbers.{VerdictNumbers}

-- a status
abbrev pub status_number : Status → ℕ
status_number answers.Done = 0
status_number answers.Short = 1
status_number answers.NoMemory = 2
status_number answers.Nothing = 3
status_number answers.No = 4
status_number answers.BadNumber = 5
status_number answers.NoRepo = 6

-- kinds of primitives
abbrev pub kinds_number : Kinds → ℕ
kinds_number Six = 0
kinds_number All = 1

-- limits
abbrev pub limit_numbers : Limits → LimitNumbers
limit_numbers l = record { bytes = l.bytes; patches = l.patches; prims = l.prims; replaces = l.replaces; kinds = kinds_number l.kinds }

-- a policy
abbrev pub policy_number : Policy → ℕ
policy_number Refuse = 0
policy_number Skip = 1

-- a fault of a text
abbrev pub fault_number : FaultKind → ℕ
fault_number faults.TooLarge = 0
fault_number faults.NoNewPatches = 1
fault_number faults.BadInfo = 2
fault_number faults.Inverted = 3
fault_number faults.BadDepends = 4
fault_number faults.BadPatch = 5
fault_number faults.Unsupported = 6
fault_number faults.BadPath = 7
fault_number faults.BadNumber = 8
fault_number faults.EmptyHunk = 9
fault_number faults.Unclosed = 10
fault_number faults.NoContext = 11
fault_number faults.Doubled = 12
fault_number faults.TooMany = 13
fault_number faults.NoMemory = 14
fault_number faults.BadHex = 15
fault_number faults.BadPreference = 16
fault_number faults.BadTokens = 17

-- numbers of a verdict that says no more than its kind
abbrev pub bare : ℕ → VerdictNumbers
bare kind = record { kind = kind; why = 0; taken = 0; skipped = 0; at = 0; place = 0; other = 0 }

-- numbers of a refusal, and of its places in the order in which they are printed
abbrev pub refused : ℕ → ℕ → ℕ → VerdictNumbers
refused why place other = record (bare 4) { why = why; place = place; other = other }

-- a refusal
abbrev pub refusal_numbers : Refusal → VerdictNumbers
refusal_numbers (refusals.MissingContext c) = refused 0 c 0
refusal_numbers (refusals.MissingDependency n d) = refused 1 n d
refusal_numbers (refusals.ContextDepends h r) = refused 2 h r
refusal_numbers (refusals.HeldDepends h n) = refused 3 h n
refusal_numbers (refusals.DoesNotFit n) = refused 4 n 0
refusal_numbers (refusals.Conflicts n h) = refused 5 n h
refusal_numbers refusals.Full = refused 6 0 0
refusal_numbers refusals.NoMemory = refused 7 0 0

-- a verdict
abbrev pub verdict_numbers : Verdict → VerdictNumbers
verdict_numbers (Taken count) = record (bare 0) { taken = count }
verdict_numbers (TakenSome count skipped) = record (bare 1) { taken = count; skipped = skipped }
verdict_numbers NothingNew = bare 2
verdict_numbers (Malformed fault) = record (bare 3) { why = fault_number fault.kind; at = fault.at }
verdict_numbers (Refused refusal) = refusal_numbers refusal

-- a verdict that isn't out of memory: each that C is told is one
abbrev pub IsTellable : Verdict → Type 0
IsTellable (Malformed fault) = fault.kind ≡ faults.NoMemory → ⊥
IsTellable (Refused refusal) = refusal ≡ refusals.NoMemory → ⊥
IsTellable other = Unit {0}

-- the status that a verdict on a text has
abbrev pub status_of : Verdict → Status
status_of (Malformed fault) = answers.No
status_of (Refused refusals.NoMemory) = answers.NoMemory
status_of (Refused other) = answers.No
status_of other = answers.Done
