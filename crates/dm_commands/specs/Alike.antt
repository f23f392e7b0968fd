-- A run of mirrors that begin alike.
use Rattle.std.specs.Prelude.{◌+◌, ℕ, List, min}
use Rattle.std.proofs.Math.ListN.{replicate}
use Rattle.dm_mirror.specs.Limits.{most_mirrors}
use Rattle.dm_mirror.specs.declared.plan.PlanFault.{PlanFault}
use Rattle.dm_mirror.specs.Plans.{IsFirstFault}
use Rattle.dm_commands.specs.declared.running.Ran.{Ran}
use Rattle.dm_commands.specs.declared.alike.Mirrors.{Mirrors}
use Rattle.dm_commands.specs.Running.{IsRan, RunsTo}

-- how many mirrors are made where so many are asked for: at most one more than any plan takes
abbrev pub made : ℕ → ℕ
made count = min count (most_mirrors + 1)

-- what is printed of a run of these mirrors, and the exit status
abbrev pub RunsAs : List (List ℕ) → List (List (List ℕ)) → Mirrors → List ℕ → ℕ → Type 0
RunsAs names texts m = RunsTo names texts (replicate (made m.count) m.base.text.now) m.base.limits (replicate (made m.count) m.policy) m.bound

-- what is told of a run of these mirrors
abbrev pub IsRanAs : List (List (List ℕ)) → Mirrors → Ran → Type 0
IsRanAs texts m ran = IsRan texts (replicate (made m.count) m.base.text.now) m.base.limits (replicate (made m.count) m.policy) m.bound ran

-- the first fault of a plan of these mirrors
abbrev pub HasFaultAs : List (List (List ℕ)) → Mirrors → PlanFault → Type 0
HasFaultAs texts m fault = IsFirstFault m.base.limits texts (replicate (made m.count) m.base.text.now) (replicate (made m.count) m.policy) m.bound fault
