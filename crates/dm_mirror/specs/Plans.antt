-- What a plan holds, and why there may be none.
use Rattle.std.specs.Prelude.{◌≡◌, ◌≢◌, ◌⊎◌, ◌<◌, ◌≤◌, ℕ, List, [], ◌∷◌, length, map, slice_get, Some}
use Rattle.std.specs.List.{AllByRecursion}
use Rattle.dm_named.specs.declared.limits.Limits.{Limits}
use Rattle.dm_named.specs.Patches.{Patch}
use Rattle.dm_repo.specs.declared.policy.Policy.{Policy}
use Rattle.dm_mail.specs.Limits.{most_posters, most_bundles, most_waiting}
use Rattle.dm_repo.specs.declared.policy.Policy.TheVariants.{Refuse}
use Rattle.dm_repo.specs.declared.refusal.Refusal.TheVariants as refusals
use Rattle.dm_scratch.specs.declared.verdict.Verdict.{Verdict}
use Rattle.dm_scratch.specs.declared.verdict.Verdict.TheVariants.{Refused}
use Rattle.dm_scratch.specs.Taking.{TakesWithin, IsAccepted}
use Rattle.dm_mirror.specs.Limits.{most_mirrors}
use Rattle.dm_mirror.specs.declared.plan.Plan.{Plan}
use Rattle.dm_mirror.specs.declared.plan.PlanFault.{PlanFault}
use Rattle.dm_mirror.specs.declared.plan.PlanFault.TheVariants.{Posters, Mirrors, Bound, TooManyBundles, BadBase, NoMemory}

-- the texts of each poster's bundles
abbrev pub plan_texts : Plan → List (List (List ℕ))
plan_texts plan = map (λ poster. poster.texts.value.items) plan.posters.items

-- the repository that each mirror begins with
abbrev pub plan_starts : Plan → List (List Patch)
plan_starts plan = map (λ mirror. mirror.repo.patches) plan.mirrors.items

-- what each mirror does with patches that conflict
abbrev pub plan_policies : Plan → List Policy
plan_policies plan = plan.policies.items

-- how many mails may wait at a mirror
abbrev pub plan_bound : Plan → ℕ
plan_bound plan = plan.bound

-- the repository that a base's text makes: an empty one of an empty text, else the one that has taken the text, read within these limits, where
-- conflicts are refused
pub data IsStart (limits : Limits) (base : List ℕ) (repo : List Patch) : Type 0 where
  empty : base ≡ [] → repo ≡ [] → IsStart limits base repo
  taken : (verdict : Verdict) → IsAccepted verdict → TakesWithin limits [] base Refuse verdict repo → IsStart limits base repo

-- so it is for each mirror
abbrev pub AreStarts : Limits → List (List ℕ) → List (List Patch) → Type 0
AreStarts limits [] [] = Unit {0}
AreStarts limits [] (r ∷ rs) = ⊥
AreStarts limits (b ∷ bs) [] = ⊥
AreStarts limits (b ∷ bs) (r ∷ rs) = IsStart limits b r × AreStarts limits bs rs

-- the base's text, read within these limits, isn't taken, with this verdict, which isn't that memory ran out
pub record IsBadBase (limits : Limits) (base : List ℕ) (verdict : Verdict) : Type 0 where
  pub filled : base ≢ []
  pub refused : IsAccepted verdict → ⊥
  pub by_itself : verdict ≢ Refused refusals.NoMemory
  pub takes : TakesWithin limits [] base Refuse verdict []

-- the base of this mirror makes no repository: memory ran out, or its verdict
abbrev pub RefusesStart : Limits → ℕ → List ℕ → PlanFault → Type 0
RefusesStart limits mirror base NoMemory = Unit {0}
RefusesStart limits mirror base (BadBase m verdict) = (m ≡ mirror) × IsBadBase limits base verdict
RefusesStart limits mirror base other = ⊥

-- each base before this mirror's makes a repository, and this one doesn't
pub record IsFirstBadBase (limits : Limits) (bases : List (List ℕ)) (mirror : ℕ) (verdict : Verdict) : Type 0 where
  pub base : List ℕ
  pub is_base : slice_get bases mirror ≡ Some base
  pub bad : IsBadBase limits base verdict
  pub first : (m : ℕ) (earlier : List ℕ) → m < mirror → slice_get bases m ≡ Some earlier → (repo : List Patch) × IsStart limits earlier repo

-- one of the bases makes no repository: memory ran out, or it is the first such one with its verdict
abbrev pub IsBadStart : Limits → List (List ℕ) → PlanFault → Type 0
IsBadStart limits bases NoMemory = Unit {0}
IsBadStart limits bases (BadBase mirror verdict) = IsFirstBadBase limits bases mirror verdict
IsBadStart limits bases other = ⊥

-- there is one, and at most so many
abbrev pub IsCount : ℕ → ℕ → Type 0
IsCount most n = (0 < n) × (n ≤ most)

-- there are none, or more
abbrev pub IsNoCount : ℕ → ℕ → Type 0
IsNoCount most n = (n ≡ 0) ⊎ (most < n)

-- there are one to `most_mirrors` mirrors, each with a base and a policy
abbrev pub AreMirrors : List (List ℕ) → List Policy → Type 0
AreMirrors bases policies = IsCount most_mirrors (length bases) × (length policies ≡ length bases)

-- there are one to `most_posters` posters, as many mirrors as a plan may have, and 1 to `most_waiting` mails may wait
abbrev pub IsShaped : List (List (List ℕ)) → List (List ℕ) → List Policy → ℕ → Type 0
IsShaped posters bases policies bound = IsCount most_posters (length posters) × AreMirrors bases policies × (0 < bound) × (bound ≤ most_waiting)

-- no poster has more than `most_bundles`
abbrev pub AreFew : List (List (List ℕ)) → Type 0
AreFew posters = AllByRecursion (λ texts. length texts ≤ most_bundles) posters

-- all that a plan may be, but for its bases
abbrev pub IsPlannable : List (List (List ℕ)) → List (List ℕ) → List Policy → ℕ → Type 0
IsPlannable posters bases policies bound = IsShaped posters bases policies bound × AreFew posters

-- the fault is the first that there is; memory may run out once a plan can be
abbrev pub IsFirstFault : Limits → List (List (List ℕ)) → List (List ℕ) → List Policy → ℕ → PlanFault → Type 0
IsFirstFault limits posters bases policies bound Posters = IsNoCount most_posters (length posters)
IsFirstFault limits posters bases policies bound Mirrors = IsCount most_posters (length posters) × (IsNoCount most_mirrors (length bases) ⊎ (length policies ≢ length bases))
IsFirstFault limits posters bases policies bound Bound = IsCount most_posters (length posters) × AreMirrors bases policies × ((bound ≡ 0) ⊎ (most_waiting < bound))
IsFirstFault limits posters bases policies bound TooManyBundles = IsShaped posters bases policies bound × (AreFew posters → ⊥)
IsFirstFault limits posters bases policies bound (BadBase mirror verdict) = IsPlannable posters bases policies bound × IsFirstBadBase limits bases mirror verdict
IsFirstFault limits posters bases policies bound NoMemory = IsPlannable posters bases policies bound
