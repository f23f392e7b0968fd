-- What holds of all bases.
use Rattle.std.specs.Prelude.{◌≡◌, ◌≢◌, ◌≤◌, ◌↔◌, ℕ, List, [], ◌∷◌, ◌++◌, length, take}
use Rattle.std.specs.List.{Contains}
use Rattle.dm_info.specs.PatchInfo.{PatchInfo}
use Rattle.dm_tree.specs.Trees.{Tree}
use Rattle.dm_named.specs.Patches.{Patch}
use Rattle.dm_bundle.specs.Patches.{infos_of}
use Rattle.dm_bundle.specs.Bundles.{Contents}
use Rattle.dm_repo.specs.declared.policy.Policy.{Policy}
use Rattle.dm_repo.specs.CommonSets.{Closed, KnowsContext}
use Rattle.dm_repo.specs.Laws.{Answer, AnswersWeighing}
use Rattle.dm_repo.specs.Repositories.{IsRepo}
use Rattle.dm_begin.specs.Bases.{BeginsWith, CutsBase, IsLast, IsTag, MayHaveBase}
use Rattle.dm_begin.specs.Beginnings.{IsBeginning}
use Rattle.dm_begin.specs.Making.{rows}

-- a beginning whose last name is a tag and whose tree has an entry has the form of a base, all of it
abbrev pub BeginningIsBase : Type 0
BeginningIsBase = (names : List PatchInfo) (tree : Tree) (patches : List Patch) (tag : PatchInfo) → IsBeginning names tree patches →
    IsLast names tag → IsTag tag → rows tree ≢ [] →
    BeginsWith patches (length names)

-- what comes behind a base leaves it as it is: the same patches may be the base, and no others are the first
abbrev pub BaseStays : Type 0
BaseStays = (repo more : List Patch) (base : ℕ) → MayHaveBase repo base → MayHaveBase (repo ++ more) base × (take base (repo ++ more) ≡ take base repo)

-- the two bundles have the same new patches, and both contexts are held, with the same in their closed sets
pub record AreBoundAlike (repo : List Patch) (b cut : Contents) : Type 0 where
  pub patches : cut.patches ≡ b.patches
  pub knows : KnowsContext repo b
  pub knows_cut : KnowsContext repo cut
  pub closed : (i : PatchInfo) → Closed repo b.context i ↔ Closed repo cut.context i

-- weighing answers the same to both
abbrev pub AreAnsweredAlike : List Patch → Contents → Contents → Type 0
AreAnsweredAlike repo b cut = (policy : Policy) (x : Answer) → AnswersWeighing repo b policy x ↔ AnswersWeighing repo cut policy x

-- so it is with all that are bound alike
abbrev pub BoundAnswerAlike : Type 0
BoundAnswerAlike = (repo : List Patch) (b cut : Contents) → AreBoundAlike repo b cut → AreAnsweredAlike repo b cut

-- who has the last of these names has them all, by way of dependencies
abbrev pub LastBringsAll : List Patch → List PatchInfo → Type 0
LastBringsAll repo base = (last i : PatchInfo) → IsLast base last → Contains base i → Closed repo (last ∷ []) i

-- so it is with the base of a repository
abbrev pub BaseIsBrought : Type 0
BaseIsBrought = (repo : List Patch) (base : ℕ) → MayHaveBase repo base → LastBringsAll repo (infos_of (take base repo))

-- a repository where it is so, and that holds the whole context of a bundle, answers the bundle and the cut one alike
abbrev pub CutAnswersAlike : Type 0
CutAnswersAlike = (mine repo : List Patch) (b cut : Contents) (base : ℕ) → IsRepo mine → CutsBase mine base b cut →
    LastBringsAll repo (infos_of (take base mine)) → KnowsContext repo b → AreAnsweredAlike repo b cut
