-- What stays of a repository and what goes, where patches of some names have to go (`darcs obliterate`).
use Rattle.std.specs.Prelude.{List, [], ◌∷◌, ◌++◌, Contains}
use Rattle.dm_info.specs.PatchInfo.{PatchInfo}
use Rattle.dm_named.specs.Patches.{Patch}
use Rattle.dm_named.specs.Commuting.{NamedCommutes}
use Rattle.dm_repo.specs.Staircases.{Passes, PassStops}

-- `Leaves chosen repo stays goes bound`: told from the first patch on, one of a chosen name goes, behind all that stay; another stays if it passes those that go
-- before it; one that can't goes too, and is bound to the nearest that stops it
pub data Leaves (chosen : List PatchInfo) : List Patch → List Patch → List Patch → List (PatchInfo × PatchInfo) → Type 0 where
  nothing : Leaves chosen [] [] [] []
  goes : (x : Patch) (xs stay go : List Patch) (bound : List (PatchInfo × PatchInfo)) → Leaves chosen xs stay go bound →
      Contains chosen x.info → Leaves chosen (xs ++ x ∷ []) stay (go ++ x ∷ []) bound
  stays : (x x' : Patch) (xs stay go go' : List Patch) (bound : List (PatchInfo × PatchInfo)) → Leaves chosen xs stay go bound →
      (Contains chosen x.info → ⊥) → Passes NamedCommutes go x x' go' → Leaves chosen (xs ++ x ∷ []) (stay ++ x' ∷ []) go' bound
  follows : (x r : Patch) (xs stay go : List Patch) (bound : List (PatchInfo × PatchInfo)) → Leaves chosen xs stay go bound →
      (Contains chosen x.info → ⊥) → PassStops NamedCommutes go x r → Leaves chosen (xs ++ x ∷ []) stay (go ++ x ∷ []) (bound ++ (x.info, r.info) ∷ [])
