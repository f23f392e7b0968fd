use Rattle.std.proofs.Common.{◌≢◌, [], take}
use Rattle.std.specs.List.{All}
use Rattle.dm_repo.proofs.tops.prove_names.Given as goal

abbrev pub invariant-loop-path : goal.invariant-loop-path
invariant-loop-path g l = All (λ f. f ≢ []) (take l.path-index l.paths)
