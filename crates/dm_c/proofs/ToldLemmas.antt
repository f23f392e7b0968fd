-- A verdict is told unless its status is that memory ran out.
use Rattle.std.proofs.Common.{◌≡◌, refl}
use Rattle.dm_repo.specs.declared.refusal.Refusal.TheVariants.{MissingContext, MissingDependency, ContextDepends, HeldDepends, DoesNotFit, Conflicts, Full, NoMemory}
use Rattle.dm_scratch.specs.declared.verdict.Verdict.{Verdict}
use Rattle.dm_scratch.specs.declared.verdict.Verdict.TheVariants.{Taken, TakenSome, NothingNew, Malformed, Refused}
use Rattle.dm_c.specs.declared.numbers.VerdictNumbers.{VerdictNumbers}
use Rattle.dm_c.specs.declared.status.Status.TheVariants as answers
use Rattle.dm_c.specs.Numbers.{status_of, verdict_numbers}
use Rattle.dm_c.specs.Calls.{IsTold}

pub is_told : (v : Verdict) (old new : VerdictNumbers) → (status_of v ≡ answers.NoMemory → ⊥) → new ≡ verdict_numbers v → IsTold v old new
is_told (Taken n) old new h e = e
is_told (TakenSome n s) old new h e = e
is_told NothingNew old new h e = e
is_told (Malformed f) old new h e = e
is_told (Refused (MissingContext c)) old new h e = e
is_told (Refused (MissingDependency n d)) old new h e = e
is_told (Refused (ContextDepends a r)) old new h e = e
is_told (Refused (HeldDepends a n)) old new h e = e
is_told (Refused (DoesNotFit n)) old new h e = e
is_told (Refused (Conflicts n a)) old new h e = e
is_told (Refused Full) old new h e = e
is_told (Refused NoMemory) old new h e = absurd (h refl)
