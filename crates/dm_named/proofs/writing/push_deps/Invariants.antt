use Rattle.std.proofs.Common.{◌≡◌, ◌++◌, take}
use Rattle.std.specs.Prelude.{codes}
use Rattle.std.specs.List.{AllByRecursion, flat_map}
use Rattle.dm_info.specs.PatchInfo.{IsInfo}
use Rattle.dm_named.specs.Canonical.{info_line}
use Rattle.dm_named.proofs.writing.push_deps.Given as goal

abbrev pub invariant-loop-dep : goal.invariant-loop-dep
invariant-loop-dep g l =
    record {
      text : l.out.items ≡ l.fn.out.items ++ (codes "<\n" ++ flat_map info_line (take l.dep-index l.deps));
      valid : AllByRecursion IsInfo (take l.dep-index l.deps);
    }
