use Rattle.std.proofs.Common.{◌≡◌, ◌++◌, take}
use Rattle.std.specs.List.{AllByRecursion, flat_map}
use Rattle.dm_prim.specs.Prims.{prims_of}
use Rattle.dm_prim.specs.Commuting.{IsValidPrim}
use Rattle.dm_named.specs.Kinds.{HaveBytes}
use Rattle.dm_named.specs.Canonical.{prim_text}
use Rattle.dm_named.proofs.writing.push_prims.Given as goal

abbrev pub invariant-loop-prim : goal.invariant-loop-prim
invariant-loop-prim g l =
    record {
      text : l.out.items ≡ l.fn.out.items ++ flat_map prim_text (prims_of (take l.prim-index l.prims));
      valid : AllByRecursion IsValidPrim (prims_of (take l.prim-index l.prims));
      bytes : HaveBytes (prims_of (take l.prim-index l.prims));
    }
