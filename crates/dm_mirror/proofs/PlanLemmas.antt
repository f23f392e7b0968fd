-- A base that makes no repository.
use Rattle.std.proofs.Common.{◌≡◌, ◌≢◌, ◌⊎◌, ◌<◌, ◌≤◌, ℕ, zero, suc, false, true≢false, eqb, List, [], ◌∷◌, ◌++◌, ◌+◌, length, map, take, get_or, slice_get, Some, inl, inr, refl, sym, ap, ◌∙◌, subst, arith}
use Rattle.std.specs.List.{AllByRecursion}
use Rattle.std.proofs.lemmas.List.{length-map, map_more, map-append}
use Rattle.dm_named.specs.declared.limits.Limits.{Limits}
use Rattle.dm_named.specs.Patches.{Patch}
use Rattle.dm_repo.specs.declared.policy.Policy.TheVariants.{Refuse}
use Rattle.dm_repo.specs.declared.refusal.Refusal.TheVariants as refusals
use Rattle.dm_scratch.specs.declared.verdict.Verdict.{Verdict}
use Rattle.dm_scratch.specs.declared.verdict.Verdict.TheVariants.{Refused}
use Rattle.dm_scratch.specs.Taking.{TakesWithin, IsAccepted}
use Rattle.dm_scratch.proofs.KeepLemmas.{refused_keeps}
use Rattle.dm_mirror.specs.declared.plan.PlanFault.{PlanFault}
use Rattle.dm_mirror.specs.declared.plan.PlanFault.TheVariants.{Posters, Mirrors, Bound, TooManyBundles, BadBase, NoMemory}
use Rattle.dm_mirror.specs.Deliveries.{mails_in}
use Rattle.dm_mirror.specs.Plans.{IsStart, AreStarts, RefusesStart, IsBadStart}
use Rattle.dm_mirror.proofs.DeliveryLemmas.{some_inj}
use Rattle.dm_mail.specs.Limits.{most_bundles}

pub refuses_start : (limits : Limits) (mirror : ℕ) (base : List ℕ) (v : Verdict) (after : List Patch) (e : PlanFault) → base ≢ [] → (IsAccepted v → ⊥) → TakesWithin limits [] base Refuse v after →
    ((v ≡ Refused refusals.NoMemory) × (e ≡ NoMemory)) ⊎ ((v ≢ Refused refusals.NoMemory) × (e ≡ BadBase mirror v)) → RefusesStart limits mirror base e
refuses_start limits mirror base v after e filled refused t (inl x) = rw x.1 tt
refuses_start limits mirror base v after e filled refused t (inr x) =
    rw x.1 (refl, record { filled = filled; refused = refused; by_itself = x.0; takes = subst (TakesWithin limits [] base Refuse v) (refused_keeps limits [] base v after refused t) t })

-- a text that isn't empty
pub filled : (base : List ℕ) → false ≡ eqb (length base) 0 → base ≢ []
filled [] e same = absurd (true≢false (sym e))
filled (x ∷ xs) e same = absurd (cc same)

all_at : {A B : Type 0} (P : B → Type 0) (f : A → B) (xs : List A) (i : ℕ) (d : A) → i < length xs → AllByRecursion P (map f xs) → P (f (get_or xs i d))
all_at P f [] i d l all = absurd (omega arith)
all_at P f (x ∷ xs) zero d l all = all.0
all_at P f (x ∷ xs) (suc i) d l all = all_at P f xs i d (omega arith) all.1

-- the poster at a place has few texts, where all have
pub few_at : {A B C : Type 0} (h : B → C) (g : A → List B) (xs : List A) (i : ℕ) (d : A) → i < length xs → AllByRecursion (λ ts. length ts ≤ most_bundles) (map (λ x. map h (g x)) xs) → length (g (get_or xs i d)) ≤ most_bundles
few_at h g xs i d l all = omega (arith, all_at (λ ts. length ts ≤ most_bundles) (λ x. map h (g x)) xs i d l all, length-map (g (get_or xs i d)) h)

mails_append : (ts : List (List (List ℕ))) (t : List (List ℕ)) → mails_in (ts ++ t ∷ []) ≡ mails_in ts + (length t + 1)
mails_append [] t = omega arith
mails_append (x ∷ ts) t = let a = mails_append ts t in omega arith

-- the mails of one poster more
pub mails_next : {A : Type 0} (f : A → List (List ℕ)) (xs : List A) (i : ℕ) (d : A) (count many : ℕ) → i < length xs → many ≡ length (f (get_or xs i d)) → count ≡ mails_in (map f (take i xs)) →
    count + (many + 1) ≡ mails_in (map f (take (i + 1) xs))
mails_next f xs i d count many l e so_far =
    let a = mails_append (map f (take i xs)) (f (get_or xs i d)) in
    let b = ap mails_in (map_more f xs i d l) in
    omega arith

starts_append : (limits : Limits) (bs : List (List ℕ)) (rs : List (List Patch)) (b : List ℕ) (r : List Patch) → AreStarts limits bs rs → IsStart limits b r → AreStarts limits (bs ++ b ∷ []) (rs ++ r ∷ [])
starts_append limits [] [] b r all one = (one, tt)
starts_append limits [] (q ∷ rs) b r all one = absurd all
starts_append limits (a ∷ bs) [] b r all one = absurd all
starts_append limits (a ∷ bs) (q ∷ rs) b r all one = (all.0, starts_append limits bs rs b r all.1 one)

-- the repository of one base more
pub starts_next : {A R : Type 0} (limits : Limits) (f : A → List ℕ) (h : R → List Patch) (xs : List A) (i : ℕ) (d : A) (repos more : List R) (repo : R) → i < length xs → more ≡ repos ++ repo ∷ [] → IsStart limits (f (get_or xs i d)) (h repo) →
    AreStarts limits (map f (take i xs)) (map h repos) → AreStarts limits (map f (take (i + 1) xs)) (map h more)
starts_next limits f h xs i d repos more repo l e one so_far =
    let made : map h more ≡ map h repos ++ h repo ∷ [] = ap (map h) e ∙ map-append h repos (repo ∷ []) in
    rw (map_more f xs i d l, made) (starts_append limits (map f (take i xs)) (map h repos) (f (get_or xs i d)) (h repo) so_far one)

start_before : {A : Type 0} (limits : Limits) (f : A → List ℕ) (xs : List A) (i m : ℕ) (rs : List (List Patch)) (b : List ℕ) → m < i → AreStarts limits (map f (take i xs)) rs → slice_get (map f xs) m ≡ Some b → (repo : List Patch) × IsStart limits b repo
start_before limits f xs zero m rs b l all at = absurd (omega arith)
start_before limits f [] (suc i) m rs b l all at = absurd (cc at)
start_before limits f (x ∷ xs) (suc i) m [] b l all at = absurd all
start_before limits f (x ∷ xs) (suc i) zero (r ∷ rs) b l all at = (r, subst (λ t. IsStart limits t r) (some_inj (f x) b at) all.0)
start_before limits f (x ∷ xs) (suc i) (suc m) (r ∷ rs) b l all at = start_before limits f xs i m rs b (omega arith) all.1 at

item_of : {A B : Type 0} (f : A → B) (xs : List A) (i : ℕ) (d : A) → i < length xs → slice_get (map f xs) i ≡ Some (f (get_or xs i d))
item_of f [] i d l = absurd (omega arith)
item_of f (x ∷ xs) zero d l = refl
item_of f (x ∷ xs) (suc i) d l = item_of f xs i d (omega arith)

-- the first base that makes no repository
pub bad_start : {A : Type 0} (limits : Limits) (f : A → List ℕ) (xs : List A) (i : ℕ) (d : A) (rs : List (List Patch)) (e : PlanFault) → i < length xs → AreStarts limits (map f (take i xs)) rs → RefusesStart limits i (f (get_or xs i d)) e →
    IsBadStart limits (map f xs) e
bad_start limits f xs i d rs NoMemory l before refused = tt
bad_start limits f xs i d rs (BadBase m v) l before refused =
    record {
      base = f (get_or xs i d);
      is_base = rw refused.0 (item_of f xs i d l);
      bad = refused.1;
      first = λ k earlier below at. start_before limits f xs i k rs earlier (rw refused.0 at below) before at;
    }
bad_start limits f xs i d rs Posters l before refused = absurd refused
bad_start limits f xs i d rs Mirrors l before refused = absurd refused
bad_start limits f xs i d rs Bound l before refused = absurd refused
bad_start limits f xs i d rs TooManyBundles l before refused = absurd refused

pub as_many_starts : (limits : Limits) (bs : List (List ℕ)) (rs : List (List Patch)) → AreStarts limits bs rs → length rs ≡ length bs
as_many_starts limits [] [] all = refl
as_many_starts limits [] (r ∷ rs) all = absurd all
as_many_starts limits (b ∷ bs) [] all = absurd all
as_many_starts limits (b ∷ bs) (r ∷ rs) all = ap suc (as_many_starts limits bs rs all.1)

pub positive : {A : Type 0} (xs : List A) → false ≡ eqb (length xs) 0 → 0 < length xs
positive [] e = absurd (true≢false (sym e))
positive (x ∷ xs) e = omega arith
