-- What goes from a mirror, and the text that brings it back.
use Rattle.std.specs.Prelude.{◌≡◌, ◌≢◌, ℕ, List, [], take}
use Rattle.std.specs.List.{Contains}
use Rattle.dm_info.specs.PatchInfo.{PatchInfo}
use Rattle.dm_named.specs.Limits.{standard}
use Rattle.dm_named.specs.Laws.{with_kinds}
use Rattle.dm_named.specs.declared.limits.Kinds.{Kinds}
use Rattle.dm_named.specs.Patches.{Patch}
use Rattle.dm_bundle.specs.Patches.{infos_of}
use Rattle.dm_begin.specs.Bases.{CutsBase, MayHaveBase}
use Rattle.dm_bundle.specs.Bundles.{Contents}
use Rattle.dm_repo.specs.declared.policy.Policy.TheVariants.{Refuse}
use Rattle.dm_repo.specs.Weighing.{IsMergeOf}
use Rattle.dm_scratch.specs.Taking.{ReadsWithin}
use Rattle.dm_send.specs.Obliterating.{Obliterates}
use Rattle.dm_send.specs.Sending.{TakesAs}

-- Patches of some names go, and those that are bound to them, one at least. The text stands for a bundle of them, of primitives of these kinds; what
-- stays takes it, and has then what goes behind its own.
pub record TakesOut (kinds : Kinds) (repo stays : List Patch) (text : List ℕ) : Type 0 where
  pub base : ℕ
  pub chosen : List PatchInfo
  pub gone : Contents
  pub bound : List (PatchInfo × PatchInfo)
  pub obliterates : Obliterates repo base chosen stays gone bound
  pub some : gone.patches ≢ []
  pub kept : Contents
  pub same : kept.patches ≡ gone.patches
  pub is_taken : IsMergeOf stays kept Refuse obliterates.go 0
  pub reads : ReadsWithin (with_kinds standard kinds) text kept

-- one of these names is of the base of the repository
pub record NamesBase (repo : List Patch) (base : ℕ) (names : List PatchInfo) : Type 0 where
  pub name : PatchInfo
  pub is_named : Contains names name
  pub is_of_base : Contains (infos_of (take base repo)) name

-- The patches of these names go, and those that are bound to them; the base stays as it is. The bundle of what goes names of the base the last patch
-- alone, and what stays takes it, and has then what goes behind its own.
pub record ObliteratesBehind (repo : List Patch) (base : ℕ) (chosen : List PatchInfo) (stays : List Patch) (cut : Contents) (bound : List (PatchInfo × PatchInfo)) : Type 0 where
  pub keeps : take base stays ≡ take base repo
  pub gone : Contents
  pub obliterates : Obliterates repo base chosen stays gone bound
  pub cuts : CutsBase repo base gone cut
  pub is_taken : MayHaveBase repo base → TakesAs stays cut obliterates.go
