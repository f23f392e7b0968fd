-- The printed text of a verdict.
use Rattle.std.specs.Prelude.{ℕ, List, ◌∷◌, ◌++◌, codes}
use Rattle.std.specs.Fmt.{decimal}
use Rattle.dm_named.specs.FaultWords.{fault_word}
use Rattle.dm_repo.specs.Words.{refusal_text}
use Rattle.dm_scratch.specs.declared.verdict.Verdict.{Verdict}
use Rattle.dm_scratch.specs.declared.verdict.Verdict.TheVariants.{Taken, TakenSome, NothingNew, Malformed, Refused}

-- the text of a verdict; a malformed text is reported by the word of its fault and the fault's place
abbrev pub verdict_text : Verdict → List ℕ
verdict_text (Taken count) = codes "taken " ++ decimal count
verdict_text (TakenSome count skipped) = codes "taken " ++ (decimal count ++ (codes " skipped " ++ decimal skipped))
verdict_text NothingNew = codes "nothing new"
verdict_text (Malformed fault) = codes "malformed " ++ (fault_word fault.kind ++ 32 ∷ decimal fault.at)
verdict_text (Refused refusal) = codes "refused " ++ refusal_text refusal
