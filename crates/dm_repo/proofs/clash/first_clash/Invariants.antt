use Rattle.std.proofs.Common.{◌≡◌, map, take, drop}
use Rattle.dm_repo.specs.Merging.{MergeRectangle}
use Rattle.dm_repo.specs.Squares.{PlacedMerges, undone}
use Rattle.dm_repo.proofs.clash.first_clash.Given as goal

abbrev pub invariant-loop-k : goal.invariant-loop-k
invariant-loop-k g l = record {
  merged : MergeRectangle PlacedMerges (map undone l.initial.rest) (take l.k l.initial.new) (take l.k l.new) (map undone l.rest);
  ahead : drop l.k l.new ≡ drop l.k l.initial.new;
}
