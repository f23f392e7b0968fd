-- What holds of all repositories and bundles.
use Rattle.std.specs.Prelude.{◌≡◌, ◌≢◌, ◌↔◌, ◌+◌, ℕ, List, ◌∷◌, ◌++◌, length, Option}
use Rattle.dm_prim.specs.InTurn.{InTurn}
use Rattle.dm_prim.specs.Primitives.{LawfulMap}
use Rattle.dm_named.specs.Patches.{Patch}
use Rattle.dm_named.specs.declared.limits.Kinds.{Kinds}
use Rattle.dm_bundle.specs.Bundles.{Contents}
use Rattle.dm_repo.specs.Staircases.{Split, SplitStops}
use Rattle.dm_repo.specs.Merging.{Merge, MergeStops}
use Rattle.dm_repo.specs.Sifting.{MergesUnder}
use Rattle.dm_repo.specs.Squares.{Placed, placed, patches, PlacedCommutes, PlacedMerges}
use Rattle.dm_repo.specs.Folds.{PatchLeads, Fold}
use Rattle.dm_bundle.specs.Patches.{infos_of, Distinct, AreAllOf}
use Rattle.dm_repo.specs.Repositories.{Repository, IsRepo}
use Rattle.dm_repo.specs.declared.policy.Policy.{Policy}
use Rattle.dm_repo.specs.declared.policy.Policy.TheVariants.{Refuse, Skip}
use Rattle.dm_repo.specs.declared.refusal.Refusal.{Refusal}
use Rattle.dm_repo.specs.declared.refusal.Refusal.TheVariants.{NoMemory}
use Rattle.dm_repo.specs.Weighing.{IsCommon, Fits, RefusesBundle, IsNothingNew, IsMergeOf}
use Rattle.dm_repo.specs.Orders.{TakesBothOrders, patches_of_both}

-- front then rest make the repository's tree
abbrev pub SplitFolds : Type 0
SplitFolds = (repo : List Patch) (b : Contents) (front rest : List Placed) →
    Split PlacedCommutes (IsCommon repo b) (placed repo) front rest →
    (t : LawfulMap) → Fold repo t ↔ Fold (patches front ++ patches rest) t

-- a list of patches makes one tree
abbrev pub FoldIsOne : Type 0
FoldIsOne = (xs : List Patch) (s t : LawfulMap) → Fold xs s → Fold xs t → s ≡ t

-- what fits and is merged applies after the repository, also where others are skipped
abbrev pub MergeApplies : Type 0
MergeApplies = (repo : List Patch) (b : Contents) (policy : Policy) (rest new merged : List Placed) (skipped : ℕ) →
    Fits repo b rest new → MergesUnder policy rest new merged skipped →
    (s : LawfulMap) → Fold repo s → (t : LawfulMap) × InTurn PatchLeads (patches merged) s t

-- a repository is split in one way
abbrev pub SplitIsOne : Type 0
SplitIsOne = (repo : List Patch) (b : Contents) (front rest front1 rest1 : List Placed) →
    Split PlacedCommutes (IsCommon repo b) (placed repo) front rest →
    Split PlacedCommutes (IsCommon repo b) (placed repo) front1 rest1 → (front ≡ front1) × (rest ≡ rest1)

-- where it is split no pair stops it, and one pair alone does
abbrev pub SplitStopsOnce : Type 0
SplitStopsOnce = (repo : List Patch) (b : Contents) (h r : Placed) → SplitStops PlacedCommutes (IsCommon repo b) (placed repo) h r →
    ((front rest : List Placed) → Split PlacedCommutes (IsCommon repo b) (placed repo) front rest → ⊥) ×
    ((h1 r1 : Placed) → SplitStops PlacedCommutes (IsCommon repo b) (placed repo) h1 r1 → (h ≡ h1) × (r ≡ r1))

-- two lists are merged in one way
abbrev pub MergeIsOne : Type 0
MergeIsOne = (rest new merged merged1 : List Placed) →
    Merge PlacedMerges rest new merged → Merge PlacedMerges rest new merged1 → merged ≡ merged1

-- where they are merged no pair stops it, and one pair alone does
abbrev pub MergeStopsOnce : Type 0
MergeStopsOnce = (rest new : List Placed) (n r : Placed) → MergeStops PlacedMerges rest new n r →
    ((merged : List Placed) → Merge PlacedMerges rest new merged → ⊥) ×
    ((n1 r1 : Placed) → MergeStops PlacedMerges rest new n1 r1 → (n ≡ n1) × (r ≡ r1))

-- with a merged bundle appended a repository is one again
abbrev pub MergeIsRepo : Type 0
MergeIsRepo = (repo : List Patch) (b : Contents) (policy : Policy) (merged : List Patch) (skipped : ℕ) →
    IsRepo repo → Distinct (infos_of b.patches) → IsMergeOf repo b policy merged skipped → IsRepo (repo ++ merged)

-- what is merged has no other kinds of primitives than the new patches
abbrev pub MergeKeepsKinds : Type 0
MergeKeepsKinds = (kinds : Kinds) (repo : List Patch) (b : Contents) (policy : Policy) (merged : List Patch) (skipped : ℕ) →
    AreAllOf kinds b.patches → IsMergeOf repo b policy merged skipped → AreAllOf kinds merged

-- where nothing conflicts both policies say the same: what is merged where conflicts are refused is merged so where they are skipped, and nothing
-- is skipped; and where nothing is skipped, all is merged so where they are refused
abbrev pub PoliciesAgree : Type 0
PoliciesAgree = (rest : List Placed) (n : Placed) (new merged : List Placed) →
    MergesUnder Refuse rest (n ∷ new) merged 0 ↔ MergesUnder Skip rest (n ∷ new) merged 0

-- each patch to merge is merged or skipped
abbrev pub EachIsMergedOrSkipped : Type 0
EachIsMergedOrSkipped = (policy : Policy) (rest new merged : List Placed) (skipped : ℕ) →
    MergesUnder policy rest new merged skipped → length merged + skipped ≡ length new

-- an answer to weighing: why the bundle isn't taken, that nothing is new, or the merged patches and how many are skipped
pub data Answer : Type 0 where
  Refused : Refusal → Answer
  NothingNew : Answer
  Merged : List Patch → ℕ → Answer

-- it returns the weighing of the bundle against the repository
abbrev pub AnswersWeighing : List Patch → Contents → Policy → Answer → Type 0
AnswersWeighing repo b policy (Refused why) = RefusesBundle repo b policy why
AnswersWeighing repo b policy NothingNew = IsNothingNew repo b
AnswersWeighing repo b policy (Merged merged skipped) = IsMergeOf repo b policy merged skipped

-- weighing has one answer under each policy, where memory doesn't run out
abbrev pub WeighingHasOneAnswer : Type 0
WeighingHasOneAnswer = (repo : List Patch) (b : Contents) (policy : Policy) (x y : Answer) → x ≢ Refused NoMemory → y ≢ Refused NoMemory →
    AnswersWeighing repo b policy x → AnswersWeighing repo b policy y → x ≡ y

-- two answers to taking two bundles in both orders are the same: both none, or twice the same patches
abbrev pub BothOrdersHaveOneAnswer : Type 0
BothOrdersHaveOneAnswer = (repo : List Patch) (b c : Contents) (x y : Option (Repository × Repository)) →
    TakesBothOrders repo b c x → TakesBothOrders repo b c y → patches_of_both x ≡ patches_of_both y
