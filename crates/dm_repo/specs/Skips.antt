-- Why patches are skipped: each can't pass one that was skipped before it, or can't be merged with one of the rest.
use Rattle.std.specs.Prelude.{◌≡◌, List, [], ◌∷◌, ◌++◌}
use Rattle.dm_named.specs.Patches.{Patch}
use Rattle.dm_bundle.specs.Bundles.{Contents}
use Rattle.dm_repo.specs.declared.skip.Skip.{Skip}
use Rattle.dm_repo.specs.declared.skip.Stopper.{Stopper}
use Rattle.dm_repo.specs.declared.skip.Stopper.TheVariants.{Held, Skipped}
use Rattle.dm_repo.specs.Staircases.{Passes, PassStops}
use Rattle.dm_repo.specs.Merging.{MergePastStops}
use Rattle.dm_repo.specs.Sifting.{MergesOver}
use Rattle.dm_repo.specs.Squares.{Placed, PlacedCommutes, PlacedMerges}
use Rattle.dm_repo.specs.Weighing.{IsNothingNew, Fits}

-- n is stopped by the patch of this place: the nearest of the skipped ones that it can't pass; or, where it passes all of them, the first of the rest
-- that it can't be merged with
abbrev pub IsStoppedBy : List Placed → List Placed → Placed → Stopper → Type 0
IsStoppedBy skipped rest n (Skipped k) = (r : Placed) × (k ≡ r.0) × PassStops PlacedCommutes skipped n r
IsStoppedBy skipped rest n (Held k) =
    (between : Placed) × (skipped' : List Placed) × (r : Placed) ×
    (k ≡ r.0) × Passes PlacedCommutes skipped n between skipped' × MergePastStops PlacedMerges rest between r

-- as `Sifts`, with what is told of each patch of new that is skipped, in their order: its place, and what stops it
pub data SiftsFor : List Placed → List Placed → List Placed → List Placed → List Placed → List Skip → Type 0 where
  ends : {skipped rest : List Placed} → SiftsFor skipped rest [] [] skipped []
  merges : {n n' : Placed} {skipped skipped' rest rest' new merged left : List Placed} {told : List Skip} → MergesOver skipped rest n n' skipped' rest' →
      SiftsFor skipped' rest' new merged left told → SiftsFor skipped rest (n ∷ new) (n' ∷ merged) left told
  skips : {n : Placed} {skip : Skip} {skipped rest new merged left : List Placed} {told : List Skip} → skip.place ≡ n.0 → IsStoppedBy skipped rest n skip.by →
      SiftsFor (skipped ++ n ∷ []) rest new merged left told → SiftsFor skipped rest (n ∷ new) merged left (skip ∷ told)

-- what is told of the patches of a bundle that are skipped, where conflicts are: of none where nothing is new; else new is sifted beside the rest
pub data AreSkips (repo : List Patch) (b : Contents) : List Skip → Type 0 where
  nothing : IsNothingNew repo b → AreSkips repo b []
  sifted : {rest new merged left : List Placed} {told : List Skip} → Fits repo b rest new → SiftsFor [] rest new merged left told → AreSkips repo b told
