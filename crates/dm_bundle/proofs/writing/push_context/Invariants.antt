use Rattle.std.proofs.Common.{◌≡◌, ◌++◌, take}
use Rattle.std.specs.List.{AllByRecursion, flat_map}
use Rattle.dm_info.specs.PatchInfo.{IsInfo}
use Rattle.dm_named.specs.Canonical.{info_line}
use Rattle.dm_bundle.proofs.writing.push_context.Given as goal

abbrev pub invariant-loop-info : goal.invariant-loop-info
invariant-loop-info g l = record {
  text : l.out.items ≡ l.fn.out.items ++ flat_map info_line (take l.info-index l.context);
  valid : AllByRecursion IsInfo (take l.info-index l.context);
}
