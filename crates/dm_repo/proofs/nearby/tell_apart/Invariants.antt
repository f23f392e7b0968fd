use Rattle.std.proofs.Common.{◌≡◌, length, IsTrue}
use Rattle.dm_repo.proofs.Telling.{ToldUpTo}
use Rattle.dm_repo.proofs.nearby.tell_apart.Given as goal

abbrev pub invariant-loop-k : goal.invariant-loop-k
invariant-loop-k g l = record {
  marks : length l.marks ≡ length l.initial.marks;
  told : IsTrue l.all_told → ToldUpTo l.repo.patches l.fn.kept l.common l.marks l.fn.paths l.k;
}
