use Rattle.dm_bundle.specs.Patches.{infos_of}
use Rattle.dm_repo.specs.MarkLists.{AreMarksOf}
use Rattle.dm_repo.proofs.MarksLemmas.{ClosedFrom}
use Rattle.dm_begin.proofs.sharing.reached_marks.Given as goal

abbrev pub invariant-loop-k : goal.invariant-loop-k
invariant-loop-k g l = AreMarksOf l.marks.items (infos_of l.repo.patches) (ClosedFrom l.repo.patches l.names l.k)
