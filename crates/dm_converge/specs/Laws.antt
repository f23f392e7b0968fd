-- What holds of all patches whose names stand for something.
use Rattle.std.specs.Prelude.{◌≡◌, ◌↔◌, ℕ, List, ◌++◌}
use Rattle.std.specs.List.{Contains, AllByRecursion}
use Rattle.dm_prim.specs.Primitives.{LawfulMap}
use Rattle.dm_named.specs.Patches.{Patch}
use Rattle.dm_named.specs.declared.limits.Kinds.{Kinds}
use Rattle.dm_named.specs.Commuting.{NamedCommutes}
use Rattle.dm_bundle.specs.Patches.{infos_of, Distinct, SameMembers}
use Rattle.dm_bundle.specs.Bundles.{Contents}
use Rattle.dm_repo.specs.declared.policy.Policy.{Policy}
use Rattle.dm_repo.specs.Staircases.{Split}
use Rattle.dm_repo.specs.Squares.{Placed, placed, patches, PlacedCommutes}
use Rattle.dm_repo.specs.Sifting.{MergesUnder}
use Rattle.dm_repo.specs.Folds.{Fold}
use Rattle.dm_repo.specs.Repositories.{IsRepo}
use Rattle.dm_repo.specs.Weighing.{IsCommon, IsMergeOf}
use Rattle.dm_scratch.specs.declared.verdict.Verdict.{Verdict}
use Rattle.dm_scratch.specs.Taking.{TakesEach, IsAccepted}
use Rattle.dm_facts.specs.Nodes.{NodeMap}
use Rattle.dm_converge.specs.Meanings.{Meaning, LeadsAs, Runs, MakesOnce, Builds, MeansSo}
use Rattle.dm_converge.specs.Pools.{HasBundleIn, NamesStandForOneIn, NamesStandForOne, ComesOfIn, NamesDecideTree}
use Rattle.dm_converge.specs.Networks.{IsSentBy, Network}

-- where two patches commute, each does in both orders what m says of its name
abbrev pub PatchesKeepMeaning : Type 0 → Type 0
PatchesKeepMeaning I = (m : Meaning I) (x y y' x' : Patch) → NamedCommutes x y y' x' → (s t u : NodeMap I) →
    LeadsAs m x s t → LeadsAs m y t u → (v : NodeMap I) × LeadsAs m y' s v × LeadsAs m x' v u

-- where a repository is split, so do front and rest
abbrev pub SplitKeepsMeaning : Type 0 → Type 0
SplitKeepsMeaning I = (m : Meaning I) (repo : List Patch) (b : Contents) (front rest : List Placed) →
    Split PlacedCommutes (IsCommon repo b) (placed repo) front rest →
    (s t : NodeMap I) → Runs m repo s t → (u : NodeMap I) × Runs m (patches front) s u × Runs m (patches rest) u t

-- where patches are merged, so do those that are merged
abbrev pub MergeKeepsMeaning : Type 0 → Type 0
MergeKeepsMeaning I = (m : Meaning I) (policy : Policy) (rest new merged : List Placed) (skipped : ℕ) → MergesUnder policy rest new merged skipped →
    (s t u : NodeMap I) → Runs m (patches rest) s t → Runs m (patches new) s u → (v : NodeMap I) × Runs m (patches merged) t v

-- patches of the same names, in any order, make the same tree of the root alone, identities and all
abbrev pub NamesMakeTheTree : Type 0 → Type 0
NamesMakeTheTree I = (m : Meaning I) → MakesOnce m → (xs ys : List Patch) (s t : NodeMap I) →
    Distinct (infos_of xs) → Distinct (infos_of ys) → SameMembers (infos_of xs) (infos_of ys) → Builds m xs s → Builds m ys t → s ≡ t

-- where a repository and a bundle are as m says, so is the repository with the merged patches appended
abbrev pub TakingKeepsMeaning : Type 0 → Type 0
TakingKeepsMeaning I = (m : Meaning I) → MakesOnce m → (repo : List Patch) (b : Contents) (policy : Policy) (merged : List Patch) (skipped : ℕ) →
    IsRepo repo → MeansSo m b → IsMergeOf repo b policy merged skipped →
    (s : NodeMap I) → Builds m repo s → (t : NodeMap I) × Builds m (repo ++ merged) t

-- where a repository is as m says, so is what it sends
abbrev pub SentMeansSo : Type 0 → Type 0
SentMeansSo I = (m : Meaning I) (repo : List Patch) (b : Contents) (s : NodeMap I) → IsRepo repo → Builds m repo s → IsSentBy repo b → MeansSo m b

-- if the base and all bundles of a pool are as m says, whichever kinds of primitives are read, the names of what comes of them decide the tree
abbrev pub MeaningsConverge : Type 0 → Type 0
MeaningsConverge I = (m : Meaning I) → MakesOnce m → (kinds : Kinds) (pool : List (List ℕ)) (base : List Patch) (tree : NodeMap I) →
    IsRepo base → Builds m base tree → ((b : Contents) → HasBundleIn kinds pool b → MeansSo m b) →
    (one other : List Patch) → ComesOfIn kinds pool base one → ComesOfIn kinds pool base other → NamesDecideTree one other

-- if a name stands for one patch, the names of what comes of a base decide the tree, whichever kinds of primitives are read
abbrev pub PoolsConverge : Type 0
PoolsConverge = (kinds : Kinds) (pool : List (List ℕ)) (base : List Patch) → IsRepo base → NamesStandForOneIn kinds pool base →
    (one other : List Patch) → ComesOfIn kinds pool base one → ComesOfIn kinds pool base other → NamesDecideTree one other

-- so they do where two mirrors take texts of the six kinds in turn, each its own, under policies of their own
abbrev pub TakenTextsConverge : Type 0
TakenTextsConverge = (base : List Patch) (texts more : List (List ℕ)) (policy other_policy : Policy) (verdicts other_verdicts : List Verdict) (one other : List Patch) →
    IsRepo base → NamesStandForOne (texts ++ more) base →
    TakesEach base texts policy verdicts one → TakesEach base more other_policy other_verdicts other → NamesDecideTree one other

-- where both accept the same texts, in any order, their names are the same, and so are their trees
abbrev pub AcceptedTextsConverge : Type 0
AcceptedTextsConverge = (base : List Patch) (texts more : List (List ℕ)) (policy other_policy : Policy) (verdicts other_verdicts : List Verdict) (one other : List Patch) →
    IsRepo base → NamesStandForOne texts base → ((text : List ℕ) → Contains texts text ↔ Contains more text) →
    TakesEach base texts policy verdicts one → TakesEach base more other_policy other_verdicts other →
    AllByRecursion IsAccepted verdicts → AllByRecursion IsAccepted other_verdicts →
    (s t : LawfulMap) → Fold one s → Fold other t → s ≡ t

-- and where mirrors also record patches of new names and send to each other, whichever kinds of primitives are read
abbrev pub NetworksConverge : Type 0
NetworksConverge = (kinds : Kinds) (pool : List (List ℕ)) (base : List Patch) → IsRepo base → NamesStandForOneIn kinds pool base →
    (repos : List (List Patch)) (sent : List Contents) → Network kinds pool base repos sent →
    (one other : List Patch) → Contains repos one → Contains repos other → NamesDecideTree one other
