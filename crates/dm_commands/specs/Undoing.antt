-- A patch that undoes others of a mirror, and the bundle that brings it.
use Rattle.std.specs.Prelude.{ℕ, List, [], ◌∷◌}
use Rattle.dm_info.specs.PatchInfo.{PatchInfo}
use Rattle.dm_named.specs.Patches.{Patch}
use Rattle.dm_bundle.specs.Bundles.{Contents}
use Rattle.dm_begin.specs.Bases.{CutsBase, MayHaveBase}
use Rattle.dm_send.specs.Sending.{TakesAs}
use Rattle.dm_send.specs.Undoing.{RollsBack}

-- the bundle names of the base the last patch alone, and the repository takes it, and has then the patch that undoes the chosen ones behind its own
pub record RollsBackBehind (repo : List Patch) (base : ℕ) (chosen : List PatchInfo) (name : PatchInfo) (cut : Contents) : Type 0 where
  pub b : Contents
  pub rolls_back : RollsBack repo base chosen name b
  pub cuts : CutsBase repo base b cut
  pub is_taken : MayHaveBase repo base → TakesAs repo cut (rolls_back.undo ∷ [])
