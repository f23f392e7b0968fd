-- How many more replaces may follow new patches: what the clauses of private functions say.
use Rattle.std.specs.Prelude.{◌≡◌, ◌+◌, ℕ, List}
use Rattle.dm_named.specs.Patches.{Patch}
use Rattle.dm_named.specs.declared.limits.Limits.{Limits}
use Rattle.dm_named.specs.declared.limits.Kinds.{Kinds}
use Rattle.dm_named.specs.declared.limits.Kinds.TheVariants as these
use Rattle.dm_bundle.specs.Patches.{replaces_of}

-- with so many more there are as many as the most, where all kinds are read; the six kinds have none to count
abbrev pub IsRoom : Kinds → ℕ → ℕ → ℕ → Type 0
IsRoom these.Six most count left = Unit {0}
IsRoom these.All most count left = left + count ≡ most

-- after these patches so many more replaces may follow
abbrev pub LeavesRoom : Limits → List Patch → ℕ → Type 0
LeavesRoom limits patches left = IsRoom limits.kinds limits.replaces (replaces_of patches) left
