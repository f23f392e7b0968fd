-- What is sent to somebody who holds other patches (`darcs send`): what they lack, as it stands behind what both hold.
use Rattle.std.specs.Prelude.{◌≡◌, ◌≢◌, ◌↔◌, ◌⊎◌, ℕ, List, [], ◌∷◌, ◌++◌, take, reverse, Contains}
use Rattle.dm_prim.specs.Primitives.{LawfulMap}
use Rattle.dm_info.specs.PatchInfo.{PatchInfo}
use Rattle.dm_named.specs.Patches.{Patch}
use Rattle.dm_named.specs.Commuting.{NamedCommutes}
use Rattle.dm_bundle.specs.Patches.{infos_of}
use Rattle.dm_bundle.specs.Bundles.{Contents}
use Rattle.dm_repo.specs.declared.policy.Policy.{Policy}
use Rattle.dm_repo.specs.declared.policy.Policy.TheVariants.{Refuse}
use Rattle.dm_repo.specs.declared.refusal.Refusal.{Refusal}
use Rattle.dm_repo.specs.declared.refusal.Refusal.TheVariants.{ContextDepends, Full, NoMemory}
use Rattle.dm_repo.specs.CommonSets.{Closed}
use Rattle.dm_repo.specs.Folds.{Fold}
use Rattle.dm_repo.specs.Repositories.{IsRepo}
use Rattle.dm_repo.specs.Squares.{Placed, placed, patches, PlacedCommutes}
use Rattle.dm_repo.specs.Staircases.{Split, SplitStops}
use Rattle.dm_repo.specs.Stops.{AtPlaces}
use Rattle.dm_repo.specs.Weighing.{IsMergeOf, IsNothingNew, RefusesBundle}
use Rattle.dm_send.specs.Minimizing.{MinimizesBehind}

-- both hold the patch: theirs has its name, or names it by way of dependencies
abbrev pub IsShared : List Patch → List PatchInfo → Placed → Type 0
IsShared repo theirs x = Closed repo theirs x.1.info

-- the repository is split: the shared patches in front, and the others behind them
abbrev pub IsSplitFor : List Patch → List PatchInfo → List Placed → List Placed → Type 0
IsSplitFor repo theirs front rest = Split PlacedCommutes (IsShared repo theirs) (placed repo) front rest

-- front and then rest make the tree of the repository
abbrev pub MakesSameTree : List Patch → List Placed → List Placed → Type 0
MakesSameTree repo front rest = (t : LawfulMap) → Fold repo t ↔ Fold (patches front ++ patches rest) t

-- it can't be split: a shared patch depends on one that isn't; memory may run out at any time
abbrev pub RefusesToSplitFor : List Patch → List PatchInfo → Refusal → Type 0
RefusesToSplitFor repo theirs (ContextDepends h r) = AtPlaces (SplitStops PlacedCommutes (IsShared repo theirs) (placed repo)) h r
RefusesToSplitFor repo theirs NoMemory = Unit {0}
RefusesToSplitFor repo theirs other = ⊥

-- names that are told apart: those in the set, and the others, each in their order
pub data Parts (In : PatchInfo → Type 0) : List PatchInfo → List PatchInfo → List PatchInfo → Type 0 where
  no_names : Parts In [] [] []
  inside : {i : PatchInfo} {all those others : List PatchInfo} → In i → Parts In all those others → Parts In (i ∷ all) (i ∷ those) others
  outside : {i : PatchInfo} {all those others : List PatchInfo} → (In i → ⊥) → Parts In all those others → Parts In (i ∷ all) those (i ∷ others)

-- a bundle of these patches that rests on nothing
abbrev pub just : List Patch → Contents
just list = record { patches = list; context = [] }

-- a bundle of new patches that stand behind these; its context names them, the newest first
abbrev pub behind : List Patch → List Patch → Contents
behind shared new = record { patches = new; context = reverse (infos_of shared) }

-- taking the bundle is refused so, where conflicts are refused
abbrev pub IsRefusedAs : List Patch → Contents → Refusal → Type 0
IsRefusedAs repo b why = RefusesBundle repo b Refuse why

-- taking the bundle is refused, though not for memory
abbrev pub IsRefused : List Patch → Contents → Type 0
IsRefused repo b = (why : Refusal) × (why ≢ NoMemory) × IsRefusedAs repo b why

-- taking the bundle is accepted, where conflicts are refused: nothing is new, or it is merged
abbrev pub Accepts : List Patch → Contents → Type 0
Accepts repo b = IsNothingNew repo b ⊎ ((merged : List Patch) × (skipped : ℕ) × IsMergeOf repo b Refuse merged skipped)

-- what is said where it isn't: that it is full, or that memory ran out
abbrev pub RefusesThere : List Patch → Contents → Refusal → Type 0
RefusesThere repo b Full = IsRefused repo b
RefusesThere repo b NoMemory = Unit {0}
RefusesThere repo b other = ⊥

-- the repository is divided: these are its shared patches, and the first of the others, up to so many, as they stand behind all shared ones
pub record IsDivided (repo : List Patch) (theirs : List PatchInfo) (most : ℕ) (shared new : List Patch) : Type 0 where
  pub front : List Placed
  pub rest : List Placed
  pub split : IsSplitFor repo theirs front rest
  pub is_shared : shared ≡ patches front
  pub is_new : new ≡ take most (patches rest)
  -- the shared patches are told from the others by name
  pub names : Parts (Closed repo theirs) (infos_of repo) (infos_of shared) (infos_of (patches rest))
  -- by themselves they are a repository, and with all the others behind them they make the tree of the whole
  pub is_repo : IsRepo shared
  pub same_tree : MakesSameTree repo front rest

-- a repository of these patches takes the bundle, under each policy; its new patches become these, and none is skipped
abbrev pub TakesAs : List Patch → Contents → List Patch → Type 0
TakesAs shared b new = (policy : Policy) → b.patches ≢ [] → IsMergeOf shared b policy new 0

-- a bundle for somebody who holds patches of these names, and whatever else
pub record Sends (repo : List Patch) (theirs : List PatchInfo) (most : ℕ) (b : Contents) : Type 0 where
  pub shared : List Patch
  pub new : List Patch
  pub divided : IsDivided repo theirs most shared new
  -- it rests on all that is shared
  pub is_sent : b ≡ behind shared new
  -- the repository of just these, in this order, takes it as it is
  pub is_taken : TakesAs shared b new

-- a bundle for the same, that names of the shared patches the first `base`, and of the others only those that can't pass what is behind them
pub record SendsMinimal (repo : List Patch) (base : ℕ) (theirs : List PatchInfo) (most : ℕ) (b : Contents) : Type 0 where
  pub shared : List Patch
  pub new : List Patch
  pub divided : IsDivided repo theirs most shared new
  pub kept : List Patch
  pub sent : List Patch
  pub gone : List Patch
  pub minimizes : MinimizesBehind NamedCommutes base shared new kept sent gone
  pub is_sent : b ≡ behind kept sent
  -- what is kept is shared
  pub is_context : (i : PatchInfo) → Contains b.context i → Contains (infos_of shared) i
  -- the repository of all that is shared, in this order, takes it, and has then the same patches behind that
  pub is_taken : TakesAs shared b new

-- it can't be divided: a shared patch depends on one that isn't, or an empty repository refuses the shared ones; memory may run out at any time
abbrev pub RefusesToDivide : List Patch → List PatchInfo → Refusal → Type 0
RefusesToDivide repo theirs Full = (front : List Placed) × (rest : List Placed) × IsSplitFor repo theirs front rest × IsRefused [] (just (patches front))
RefusesToDivide repo theirs why = RefusesToSplitFor repo theirs why

-- nothing is sent: it can't be divided; or a repository of the shared patches refuses the bundle
abbrev pub RefusesToSend : List Patch → List PatchInfo → ℕ → Refusal → Type 0
RefusesToSend repo theirs most Full =
    RefusesToDivide repo theirs Full ⊎
    ((shared : List Patch) × (new : List Patch) × IsDivided repo theirs most shared new × IsRefused shared (behind shared new))
RefusesToSend repo theirs most why = RefusesToDivide repo theirs why

-- so it is where the bundle rests on the first `base` of the shared patches, and else on no more than it needs
abbrev pub RefusesToSendMinimal : List Patch → ℕ → List PatchInfo → ℕ → Refusal → Type 0
RefusesToSendMinimal repo base theirs most Full =
    RefusesToDivide repo theirs Full ⊎
    ((shared : List Patch) × (new : List Patch) × (kept : List Patch) × (sent : List Patch) × (gone : List Patch) × IsDivided repo theirs most shared new ×
    MinimizesBehind NamedCommutes base shared new kept sent gone × IsRefused shared (behind kept sent))
RefusesToSendMinimal repo base theirs most why = RefusesToDivide repo theirs why
