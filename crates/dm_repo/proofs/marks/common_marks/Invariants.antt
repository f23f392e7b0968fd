use Rattle.std.proofs.Common.{take}
use Rattle.dm_repo.proofs.MarksLemmas.{UpTo}
use Rattle.dm_repo.proofs.marks.common_marks.Given as goal

abbrev pub invariant-loop-patch : goal.invariant-loop-patch
invariant-loop-patch g l = UpTo l.repo.patches l.bundle.context (take l.patch-index l.patch-items) l.common.items l.held.items
