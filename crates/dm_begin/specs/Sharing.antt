-- Which patches a repository and a bundle share.
use Rattle.std.specs.Prelude.{List}
use Rattle.std.specs.List.{Contains}
use Rattle.dm_info.specs.PatchInfo.{PatchInfo}
use Rattle.dm_named.specs.Patches.{Patch}
use Rattle.dm_bundle.specs.Bundles.{Contents}
use Rattle.dm_repo.specs.CommonSets.{Common}

-- all of these names are in the common set
abbrev pub AreCommon : List Patch → Contents → List PatchInfo → Type 0
AreCommon repo b infos = (i : PatchInfo) → Contains infos i → Common repo b i
