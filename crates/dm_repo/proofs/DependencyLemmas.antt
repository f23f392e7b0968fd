-- What a new patch lacks.
use Rattle.std.proofs.Common.{◌≡◌, ◌⊎◌, inl, inr, ℕ, zero, suc, ◌+◌, ◌<◌, ◌≤◌, nat_eq, Bool, true, false, List, length, take, get_or, slice_get, Some, refl, sym, ap, subst, ◌∙◌, arith}
use Rattle.std.specs.List.{Contains}
use Rattle.std.proofs.lemmas.Bool.{eqb-true}
use Rattle.dm_info.specs.PatchInfo.{PatchInfo}
use Rattle.dm_named.specs.Patches.{Patch}
use Rattle.dm_bundle.specs.Patches.{infos_of}
use Rattle.dm_bundle.specs.Bundles.{Contents}
use Rattle.dm_repo.specs.Repositories.{Holds}
use Rattle.dm_repo.specs.CommonSets.{IsKnown, HasDependenciesAt, LacksDependency, LacksFirst, First}
use Rattle.dm_repo.specs.MarkLists.{AreMarksOf}
use Rattle.dm_repo.proofs.Members.{info_at}
use Rattle.dm_repo.proofs.MarksLemmas.{at_place, some_same, in_take_at, within, read_at}

-- a patch whose mark is set is held, and one whose mark isn't set isn't
pub marked_held : (repo new : List Patch) (held : List Bool) (n : ℕ) (x : Patch) → AreMarksOf held (infos_of new) (Holds repo) → slice_get new n ≡ Some x → slice_get held n ≡ Some true → Holds repo x.info
marked_held repo new held n x m e h = (m.at n x.info (info_at new n x (within new n e) (read_at new n x e))).0 h

pub unmarked_new : (repo new : List Patch) (held : List Bool) (n : ℕ) (x : Patch) → AreMarksOf held (infos_of new) (Holds repo) → slice_get new n ≡ Some x → slice_get held n ≡ Some false → Holds repo x.info → ⊥
unmarked_new repo new held n x m e h k =
    let t : slice_get held n ≡ Some true = (m.at n x.info (info_at new n x (within new n e) (read_at new n x e))).1 k in
    let b : false ≡ true = some_same (sym h ∙ t) in
    absurd (cc)

-- a patch that names nothing
pub names_none : (is : List PatchInfo) {i : PatchInfo} → nat_eq (length is) 0 ≡ true → Contains is i → ⊥
names_none is e (k, l, q) = absurd (omega (arith, l, eqb-true (length is) 0 e))

-- the new patch at n is x, and it names what x names
pub same_patch : (new : List Patch) (n : ℕ) (x y : Patch) → n < length new → x ≡ get_or new n x → slice_get new n ≡ Some y → x ≡ y
same_patch new n x y l e f = some_same (sym (at_place new n x l e) ∙ f)

-- a new patch that is held, or names nothing, has all it names
pub held_has : (repo : List Patch) (b : Contents) (held : List Bool) (n : ℕ) → AreMarksOf held (infos_of b.patches) (Holds repo) → slice_get held n ≡ Some true → HasDependenciesAt repo b n
held_has repo b held n m h x d e new c = absurd (new (marked_held repo b.patches held n x m e h))

pub none_has : (repo : List Patch) (b : Contents) (n : ℕ) (y : Patch) → n < length b.patches → y ≡ get_or b.patches n y → nat_eq (length y.deps) 0 ≡ true → HasDependenciesAt repo b n
none_has repo b n y l e z x d f new c =
    let s : y ≡ x = same_patch b.patches n y x l e f in
    absurd (names_none y.deps z (subst (λ (p : Patch). Contains p.deps d) (sym s) c))

-- the first dependency that isn't known
pub first_unknown : (repo : List Patch) (b : Contents) (n d : ℕ) (x : Patch) (i : PatchInfo) → n < length b.patches → x ≡ get_or b.patches n x → (Holds repo x.info → ⊥) → d < length x.deps → i ≡ get_or x.deps d i →
    (IsKnown repo b n i → ⊥) → ((j : PatchInfo) → Contains (take d x.deps) j → IsKnown repo b n j) → First (LacksDependency repo b n) d
first_unknown repo b n d x i l e new m f unknown known = (
  record { patch = x; dependency = i; patch_at = at_place b.patches n x l e; dependency_at = at_dep x.deps d i m f; is_new = new; unknown = unknown },
  λ k j q. let s : x ≡ q.patch = same_patch b.patches n x q.patch l e q.patch_at in
      let a : slice_get x.deps k ≡ Some q.dependency = ap (λ (p : Patch). slice_get p.deps k) s ∙ q.dependency_at in
      q.unknown (known q.dependency (in_take_at x.deps d k j a)),
)
  where
    at_dep : (is : List PatchInfo) (d : ℕ) (i : PatchInfo) → d < length is → i ≡ get_or is d i → slice_get is d ≡ Some i
    at_dep is d i l e = at_place is d i l e

-- a patch that has all it names lacks nothing
pub has_no_lack : (repo : List Patch) (b : Contents) (n : ℕ) → HasDependenciesAt repo b n → (e : ℕ) × LacksDependency repo b n e → ⊥
has_no_lack repo b n h (e, q) = q.unknown (h q.patch q.dependency q.patch_at q.is_new (contains_at q.patch.deps e q.dependency_at))
  where
    contains_at : (is : List PatchInfo) (k : ℕ) {i : PatchInfo} → slice_get is k ≡ Some i → Contains is i
    contains_at is k {i} f = (k, within is k f, sym (read_at is k i f))

pub first_lacking : (repo : List Patch) (b : Contents) (n d : ℕ) → ((m : ℕ) → m < n → HasDependenciesAt repo b m) → First (LacksDependency repo b n) d → LacksFirst repo b n d
first_lacking repo b n d h f = (((d, f.0), λ k j q. has_no_lack repo b k (h k j) q), f)

pub all_have : (repo : List Patch) (b : Contents) (count : ℕ) → length b.patches ≤ count → ((m : ℕ) → m < count → HasDependenciesAt repo b m) → (n : ℕ) → HasDependenciesAt repo b n
all_have repo b count l h n x d e = let w = within b.patches n e in h n (omega (arith, l, w)) x d e

pub have_more : (repo : List Patch) (b : Contents) (n : ℕ) → HasDependenciesAt repo b n → ((m : ℕ) → m < n → HasDependenciesAt repo b m) → (m : ℕ) → m < n + 1 → HasDependenciesAt repo b m
have_more repo b n h f m l = elim (less m n l) [ inl k ↦ f m k | inr e ↦ subst (λ (j : ℕ). HasDependenciesAt repo b j) (sym e) h ]
  where
    less : (m n : ℕ) → m < n + 1 → (m < n) ⊎ (m ≡ n)
    less zero zero l = inr refl
    less zero (suc n) l = inl (omega arith)
    less (suc m) zero l = absurd (omega (arith, l))
    less (suc m) (suc n) l = elim (less m n (omega (arith, l))) [ inl k ↦ inl (omega (arith, k)) | inr e ↦ inr (ap suc e) ]
