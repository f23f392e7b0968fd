use Rattle.std.proofs.Common.{take, All}
use Rattle.dm_repo.specs.Nearby.{IsNamedMarked}
use Rattle.dm_repo.proofs.nearby.are_named_marked.Given as goal

abbrev pub invariant-loop-info : goal.invariant-loop-info
invariant-loop-info g l = All (IsNamedMarked l.repo.patches l.fn.marks) (take l.info-index l.infos)
