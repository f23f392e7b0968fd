-- What holds of the definitions, whatever the code does.
use Rattle.std.specs.Prelude.{◌↔◌, ℕ, List, take, Contains}
use Rattle.dm_info.specs.PatchInfo.{PatchInfo}
use Rattle.dm_named.specs.declared.limits.Kinds.{Kinds}
use Rattle.dm_named.specs.Patches.{Patch}
use Rattle.dm_named.specs.Commuting.{NamedCommutes}
use Rattle.dm_bundle.specs.Patches.{AreAllOf, infos_of}
use Rattle.dm_send.specs.Leaving.{Leaves}
use Rattle.dm_send.specs.Minimizing.{Minimizes, MinimizesBehind}
use Rattle.dm_send.specs.Sending.{behind}

-- what stays of a repository and what goes have no other kinds of primitives than the repository
abbrev pub LeavingKeepsKinds : Type 0
LeavingKeepsKinds = (kinds : Kinds) (chosen : List PatchInfo) (repo stay go : List Patch) (bound : List (PatchInfo × PatchInfo)) →
    AreAllOf kinds repo → Leaves chosen repo stay go bound → AreAllOf kinds stay × AreAllOf kinds go

-- a bundle that is minimal behind the first `base` of the shared patches names all of these
abbrev pub BaseIsNamed : Type 0
BaseIsNamed = (base : ℕ) (shared new kept sent gone : List Patch) → MinimizesBehind NamedCommutes base shared new kept sent gone →
    (i : PatchInfo) → Contains (infos_of (take base shared)) i → Contains (behind kept sent).context i

-- behind none of them, it keeps just what is needed
abbrev pub NoBaseKeepsNothing : Type 0
NoBaseKeepsNothing = (shared new kept sent gone : List Patch) → MinimizesBehind NamedCommutes 0 shared new kept sent gone ↔ Minimizes NamedCommutes shared new kept sent gone
