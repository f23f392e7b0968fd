use Rattle.std.proofs.Common.{take}
use Rattle.dm_bundle.specs.Patches.{infos_of}
use Rattle.dm_repo.specs.CommonSets.{HoldsAll}
use Rattle.dm_repo.specs.MarkLists.{AddsMarks}
use Rattle.dm_repo.proofs.marks.context_marks.Given as goal

abbrev pub invariant-loop-c : goal.invariant-loop-c
invariant-loop-c g l = record {
  marked : AddsMarks l.initial.marks.items l.marks.items (infos_of l.repo.patches) (take l.c l.context);
  held : HoldsAll l.repo.patches (take l.c l.context);
}
