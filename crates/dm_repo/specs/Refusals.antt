-- Before which step of weighing a refusal is found. The names are looked up, the repository and the bundle are split, the front is applied, the new
-- patches are applied to what it makes, they are merged with the rest, and the merged ones are applied to the repository's tree.
use Rattle.std.specs.Prelude.{List}
use Rattle.dm_named.specs.Patches.{Patch}
use Rattle.dm_bundle.specs.Bundles.{Contents}
use Rattle.dm_repo.specs.declared.refusal.Refusal.{Refusal}
use Rattle.dm_repo.specs.declared.refusal.Refusal.TheVariants.{MissingContext, MissingDependency, ContextDepends, HeldDepends, DoesNotFit, Full, NoMemory}
use Rattle.dm_repo.specs.Weighing.{FrontIsFull}

-- it is found before the front is applied: while the names are looked up, or the repository and the bundle are split; memory may run out at any time
abbrev pub IsBeforeFront : Refusal → Type 0
IsBeforeFront (MissingContext c) = Unit {0}
IsBeforeFront (MissingDependency n d) = Unit {0}
IsBeforeFront (ContextDepends h r) = Unit {0}
IsBeforeFront (HeldDepends h n) = Unit {0}
IsBeforeFront NoMemory = Unit {0}
IsBeforeFront other = ⊥

-- it is found before the new patches are applied: where a path has more than 32 names, it has them in the front
abbrev pub IsBeforeFit : List Patch → Contents → Refusal → Type 0
IsBeforeFit repo b Full = FrontIsFull repo b
IsBeforeFit repo b other = IsBeforeFront other

-- it is found before they are merged
abbrev pub IsBeforeMerge : List Patch → Contents → Refusal → Type 0
IsBeforeMerge repo b (DoesNotFit n) = Unit {0}
IsBeforeMerge repo b other = IsBeforeFit repo b other
