use Rattle.std.proofs.Common.{◌≡◌, map, take, drop}
use Rattle.dm_repo.specs.Squares.{undone}
use Rattle.dm_repo.proofs.merge.undo_all.Given as goal

abbrev pub invariant-loop-k : goal.invariant-loop-k
invariant-loop-k g l = record {
  undone_so_far : take l.k l.patches ≡ map undone (take l.k l.initial.patches);
  ahead : drop l.k l.patches ≡ drop l.k l.initial.patches;
}
