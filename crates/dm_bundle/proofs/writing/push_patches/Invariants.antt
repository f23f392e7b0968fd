use Rattle.std.proofs.Common.{◌≡◌, ◌++◌, take}
use Rattle.std.specs.List.{AllByRecursion, flat_map}
use Rattle.dm_named.specs.Kinds.{HaveBytes}
use Rattle.dm_named.specs.Patches.{IsValidPatch}
use Rattle.dm_named.specs.Canonical.{patch_text}
use Rattle.dm_bundle.proofs.writing.push_patches.Given as goal

abbrev pub invariant-loop-patch : goal.invariant-loop-patch
invariant-loop-patch g l = record {
  text : l.out.items ≡ l.fn.out.items ++ flat_map patch_text (take l.patch-index l.patches);
  valid : AllByRecursion IsValidPatch (take l.patch-index l.patches);
  bytes : AllByRecursion (λ p. HaveBytes p.prims) (take l.patch-index l.patches);
}
