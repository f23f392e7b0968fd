use Rattle.std.proofs.Common.{◌≡◌, ◌++◌, length, map}
use Rattle.std.specs.List.{AllByRecursion}
use Rattle.dm_mirror.specs.Mirrors.{IsReady}
use Rattle.dm_mirror.proofs.plan.mirrors.mirrors_of.Given as goal

abbrev pub invariant-loop-repo : goal.invariant-loop-repo
invariant-loop-repo l = record {
  ready : AllByRecursion (IsReady l.fn.posters l.fn.expected) l.mirrors.items;
  starts : map (λ mirror. mirror.repo.patches) l.mirrors.items ++ map (λ repo. repo.patches) l.repos.items ≡ map (λ repo. repo.patches) l.fn.repos.items;
}

abbrev pub decreases-loop-repo : goal.decreases-loop-repo
decreases-loop-repo l = length l.repos.items
