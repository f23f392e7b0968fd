use Rattle.std.proofs.Common.{◌≡◌, drop, map}
use Rattle.dm_tree.specs.Validity.{names_fault}
use Rattle.dm_tree.proofs.path.refused_owned.Given as goal

abbrev pub invariant-loop-name : goal.invariant-loop-name
invariant-loop-name g l = names_fault (map (λ v. v.items) l.names) ≡ names_fault (map (λ v. v.items) (drop l.name-index l.names))
