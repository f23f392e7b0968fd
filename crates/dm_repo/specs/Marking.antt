-- What marking the common patches returns.
use Rattle.std.specs.Prelude.{Bool, List}
use Rattle.dm_named.specs.Patches.{Patch}
use Rattle.dm_bundle.specs.Patches.{infos_of}
use Rattle.dm_bundle.specs.Bundles.{Contents}
use Rattle.dm_repo.specs.declared.refusal.Refusal.{Refusal}
use Rattle.dm_repo.specs.declared.refusal.Refusal.TheVariants.{MissingContext, NoMemory}
use Rattle.dm_repo.specs.Repositories.{Holds}
use Rattle.dm_repo.specs.CommonSets.{Common, KnowsContext, First, LacksAt}
use Rattle.dm_repo.specs.MarkLists.{AreMarksOf}

-- the context is held, and the marks say which held patches are common and which new ones are held
pub record AreMarked (repo : List Patch) (b : Contents) (common held : List Bool) : Type 0 where
  pub knows : KnowsContext repo b
  pub common_is : AreMarksOf common (infos_of repo) (Common repo b)
  pub held_is : AreMarksOf held (infos_of b.patches) (Holds repo)

-- the context isn't held; memory may run out at any time
abbrev pub RefusesContext : List Patch → Contents → Refusal → Type 0
RefusesContext repo b (MissingContext c) = First (LacksAt repo b.context) c
RefusesContext repo b NoMemory = Unit {0}
RefusesContext repo b other = ⊥
