use Rattle.std.proofs.Common.{◌≡◌, ◌++◌, take}
use Rattle.std.specs.List.{AllByRecursion, flat_map}
use Rattle.dm_prim.specs.Commuting.{IsValidPrim}
use Rattle.dm_named.specs.Kinds.{HasBytes}
use Rattle.dm_named.specs.Conflictors.{EachOfOriginal}
use Rattle.dm_named.specs.CanonicalConflictors.{original_text}
use Rattle.dm_named.proofs.writing.conflictors.push_originals.Given as goal

abbrev pub invariant-loop-original : goal.invariant-loop-original
invariant-loop-original g l =
    record {
      text : l.out.items ≡ l.fn.out.items ++ flat_map original_text (take l.original-index l.originals);
      valid : AllByRecursion (EachOfOriginal IsValidPrim) (take l.original-index l.originals);
      bytes : AllByRecursion (EachOfOriginal HasBytes) (take l.original-index l.originals);
    }
