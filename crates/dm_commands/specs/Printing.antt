-- What the exit status says.
use Rattle.std.specs.Prelude.{ℕ}
use Rattle.dm_scratch.specs.declared.verdict.Verdict.{Verdict}
use Rattle.dm_scratch.specs.declared.verdict.Verdict.TheVariants.{Taken, TakenSome, NothingNew, Malformed, Refused}

-- the exit status that tells a verdict
abbrev pub status_of : Verdict → ℕ
status_of (Taken count) = 0
status_of (TakenSome count skipped) = 1
status_of NothingNew = 0
status_of (Malformed fault) = 1
status_of (Refused refusal) = 1
