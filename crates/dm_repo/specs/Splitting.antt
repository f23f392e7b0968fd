-- What splitting a repository returns.
use Rattle.std.specs.Prelude.{List}
use Rattle.dm_named.specs.Patches.{Patch}
use Rattle.dm_bundle.specs.Bundles.{Contents}
use Rattle.dm_repo.specs.declared.refusal.Refusal.{Refusal}
use Rattle.dm_repo.specs.declared.refusal.Refusal.TheVariants.{MissingContext, ContextDepends, NoMemory}
use Rattle.dm_repo.specs.Staircases.{Split, SplitStops}
use Rattle.dm_repo.specs.Squares.{Placed, placed, PlacedCommutes}
use Rattle.dm_repo.specs.CommonSets.{KnowsContext, First, LacksAt}
use Rattle.dm_repo.specs.Stops.{AtPlaces}
use Rattle.dm_repo.specs.Weighing.{IsCommon}

-- the context is held, and these are the common patches in front, and the rest
pub record SplitsInto (repo : List Patch) (b : Contents) (front rest : List Placed) : Type 0 where
  pub knows : KnowsContext repo b
  pub split : Split PlacedCommutes (IsCommon repo b) (placed repo) front rest

-- the context isn't held, or a common patch depends on one that isn't; memory may run out at any time
abbrev pub RefusesToSplit : List Patch → Contents → Refusal → Type 0
RefusesToSplit repo b (MissingContext c) = First (LacksAt repo b.context) c
RefusesToSplit repo b (ContextDepends h r) = KnowsContext repo b × AtPlaces (SplitStops PlacedCommutes (IsCommon repo b) (placed repo)) h r
RefusesToSplit repo b NoMemory = Unit {0}
RefusesToSplit repo b other = ⊥
