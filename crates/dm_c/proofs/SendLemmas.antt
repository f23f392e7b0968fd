-- What was made to be sent is given.
use Rattle.std.proofs.Common.{◌≡◌, ℕ, Bool, List, Option, Result, Ok, Err, IfOk, IfErr}
use Rattle.std.specs.Global.{Vec}
use Rattle.dm_named.specs.declared.limits.Limits.{Limits}
use Rattle.dm_named.specs.Patches.{Patch}
use Rattle.dm_scratch.specs.declared.verdict.Verdict.{Verdict}
use Rattle.dm_c.specs.declared.numbers.VerdictNumbers.{VerdictNumbers}
use Rattle.dm_c.specs.declared.status.Status.{Status}
use Rattle.dm_c.specs.Numbers.{status_number}
use Rattle.dm_c.specs.Sending.{GivesMade, GivesSent, IsNotSent, IsSentTo, sent, not_sent}

pub given_sent : (limits : Limits) (is_minimal : Bool) (repo : List Patch) (theirs : List ℕ) (made : Result (Option (Vec ℕ)) Verdict)
    (old new : List ℕ) (needed needed' : ℕ) (verdict verdict' : VerdictNumbers) (s : Status) (status : ℕ)
    → IfOk made (IsSentTo limits is_minimal repo theirs) → IfErr made (IsNotSent limits is_minimal repo theirs)
    → GivesMade made old new needed needed' verdict verdict' s → status ≡ status_number s
    → GivesSent limits is_minimal repo theirs old new needed needed' verdict verdict' status
given_sent limits is_minimal repo theirs (Ok made) old new needed needed' verdict verdict' s status is why gives says = sent made is s gives says
given_sent limits is_minimal repo theirs (Err v) old new needed needed' verdict verdict' s status is why gives says = not_sent v why s gives says
