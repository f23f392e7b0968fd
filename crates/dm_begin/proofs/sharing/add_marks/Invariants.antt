use Rattle.std.proofs.Common.{take}
use Rattle.dm_bundle.specs.Patches.{infos_of}
use Rattle.dm_repo.specs.MarkLists.{AddsMarks}
use Rattle.dm_begin.proofs.sharing.add_marks.Given as goal

abbrev pub invariant-loop-name : goal.invariant-loop-name
invariant-loop-name g l = AddsMarks l.initial.marks l.marks (infos_of l.repo.patches) (take l.name-index l.names)
