use Rattle.std.proofs.Common.{◌≡◌, ◌++◌, take}
use Rattle.std.specs.Prelude.{codes}
use Rattle.std.specs.List.{flat_map}
use Rattle.dm_named.specs.Canonical.{info_line}
use Rattle.dm_hash.proofs.kept.push_kept_deps.Given as goal

abbrev pub invariant-loop-dep : goal.invariant-loop-dep
invariant-loop-dep g l = l.out.items ≡ l.fn.out.items ++ (codes "\n<\n" ++ flat_map info_line (take l.dep-index l.deps))
