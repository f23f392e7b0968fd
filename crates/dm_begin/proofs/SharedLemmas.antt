-- Which names of a repository are marked, and whether those of its first patches are.
use Rattle.std.proofs.Common.{◌≡◌, ◌↔◌, inl, inr, ◌<◌, ◌+◌, ℕ, zero, suc, Bool, true, false, not, IsTrue, List, [], ◌∷◌, ◌++◌, length, take, get_or, slice_get, Some, refl, sym, ap, subst, ◌∙◌, arith}
use Rattle.std.specs.List.{All, AllByRecursion, Contains}
use Rattle.std.proofs.lemmas.List.{take_more, take-map}
use Rattle.std.proofs.lemmas.List.Elements.{All-from_recursion, recursion_from_All, Contains-append_left, Contains-append_cases}
use Rattle.dm_info.specs.PatchInfo.{PatchInfo}
use Rattle.dm_named.specs.Patches.{Patch}
use Rattle.dm_bundle.specs.Patches.{infos_of}
use Rattle.dm_bundle.specs.Bundles.{Contents}
use Rattle.dm_repo.specs.CommonSets.{Closed, Common, HasAll, KnowsContext}
use Rattle.dm_repo.specs.MarkLists.{AddsMarks, AreMarksOf}
use Rattle.dm_repo.proofs.MarksLemmas.{in_take_at, some_at}
use Rattle.dm_repo.proofs.Members.{from_at, one_of, none_of}
use Rattle.dm_begin.specs.Bases.{AreClosed, IsBeforeBase, KnowsBase}
use Rattle.dm_begin.specs.Sharing.{AreCommon}

-- one more of the names isn't held, and so nothing is marked for it
pub also_less : (infos : List PatchInfo) (old marks : List Bool) (list : List PatchInfo) (c : ℕ) (x : PatchInfo) → c < length list → x ≡ get_or list c x → (Contains infos x → ⊥) →
    AddsMarks old marks infos (take c list) → AddsMarks old marks infos (take (c + 1) list)
also_less infos old marks list c x l e out m =
    let t : take (c + 1) list ≡ take c list ++ x ∷ [] = take_more list c x l ∙ ap (λ z. take c list ++ z ∷ []) (sym e) in
    record {
      length_is = m.length_is;
      at = λ j i g. (
        λ h. elim ((m.at j i g).0 h) [ inl o ↦ inl o | inr o ↦ inr (rw t (Contains-append_left (take c list) (x ∷ []) i o)) ],
        λ h. (m.at j i g).1 (elim h [
          | inl o ↦ inl o
          | inr o ↦ elim (Contains-append_cases (take c list) (x ∷ []) i (rw t at o)) [
            | inl b ↦ inr b
            | inr b ↦ elim (one_of x [] b) [
              | inl q ↦ absurd (out (subst (λ (z : PatchInfo). Contains infos z) (sym q) (from_at infos j g)))
              | inr q ↦ absurd (none_of q)
            ]
          ]
        ]),
      );
    }

-- so many marks from the first are set where what they say holds of as many names
each_set : (infos : List PatchInfo) (marks : List Bool) (n : ℕ) (Q : PatchInfo → Type 0) → length marks ≡ length infos → ((k : ℕ) (i : PatchInfo) → slice_get infos k ≡ Some i → slice_get marks k ≡ Some true → Q i) →
    AllByRecursion (λ (m : Bool). m ≡ true) (take n marks) → (i : PatchInfo) → Contains (take n infos) i → Q i
each_set infos marks zero Q l f a i c = absurd (none_of c)
each_set [] marks (suc n) Q l f a i c = absurd (none_of c)
each_set (x ∷ infos) [] (suc n) Q l f a i c = absurd (omega (arith, l))
each_set (x ∷ infos) (m ∷ marks) (suc n) Q l f a i c = elim (one_of x (take n infos) c) [
  | inl e ↦ subst Q e (f 0 x refl (ap Some a.0))
  | inr h ↦ each_set infos marks n Q (omega (arith, l)) (λ k j e t. f (suc k) j e t) a.1 i h
]

set_each : (marks : List Bool) (n : ℕ) → ((k : ℕ) → k < n → k < length marks → slice_get marks k ≡ Some true) → AllByRecursion (λ (m : Bool). m ≡ true) (take n marks)
set_each marks zero f = tt
set_each [] (suc n) f = tt
set_each (m ∷ marks) (suc n) f = (some_true (f 0 (omega arith) (omega arith)), set_each marks n (λ k l o. f (suc k) (omega (arith, l)) (omega (arith, o))))
  where
    some_true : Some m ≡ Some true → m ≡ true
    some_true e = cc

pub first_set : (infos : List PatchInfo) (marks : List Bool) (n : ℕ) (Q : PatchInfo → Type 0) → AreMarksOf marks infos Q →
    All (λ (m : Bool). m ≡ true) (take n marks) ↔ ((i : PatchInfo) → Contains (take n infos) i → Q i)
first_set infos marks n Q m = (
  λ a i c. each_set infos marks n Q m.length_is (λ k j e t. (m.at k j e).0 t) (recursion_from_All (λ (b : Bool). b ≡ true) (take n marks) a) i c,
  λ f. All-from_recursion (λ (b : Bool). b ≡ true) (take n marks) (set_each marks n (λ k l o.
      let s = some_at infos k (let e = m.length_is in omega (arith, e, o)) in
      (m.at k s.0 s.1).1 (f s.0 (in_take_at infos n k l s.1)))),
)

infos_take : (repo : List Patch) (n : ℕ) → take n (infos_of repo) ≡ infos_of (take n repo)
infos_take repo n = take-map (λ (x : Patch). x.info) n repo

-- whether the base is known
pub knows : (repo : List Patch) (names : List PatchInfo) (n : ℕ) (marks : List Bool) → AreMarksOf marks (infos_of repo) (Closed repo names) →
    All (λ (m : Bool). m ≡ true) (take n marks) ↔ KnowsBase repo n names
knows repo names n marks m =
    let f = first_set (infos_of repo) marks n (Closed repo names) m in
    let e = infos_take repo n in (
      λ a. rw e at (f.0 a),
      λ k. f.1 (rw e k),
    )

-- where there is no base all know it, and nothing is before it
pub knows_none : (repo : List Patch) (names : List PatchInfo) (n : ℕ) → n ≡ 0 → KnowsBase repo n names
knows_none repo names n z = subst (λ (j : ℕ). AreClosed repo names (infos_of (take j repo))) (sym z) (λ i c. absurd (none_of c))

pub before_none : (repo : List Patch) (b : Contents) (n : ℕ) → n ≡ 0 → IsBeforeBase repo n b → ⊥
before_none repo b n z h = h.lacks (subst (λ (j : ℕ). AreCommon repo b (infos_of (take j repo))) (sym z) (λ i c. absurd (none_of c)))

-- the common set is the closed one, and the new patches that are held
pub common_marks : (repo : List Patch) (b : Contents) (closed marks : List Bool) → AreMarksOf closed (infos_of repo) (Closed repo b.context) → AddsMarks closed marks (infos_of repo) (infos_of b.patches) →
    AreMarksOf marks (infos_of repo) (Common repo b)
common_marks repo b closed marks m a = record {
  length_is = a.length_is ∙ m.length_is;
  at = λ k i e. (
    λ h. elim ((a.at k i e).0 h) [ inl o ↦ inl ((m.at k i e).0 o) | inr o ↦ inr (o, from_at (infos_of repo) k e) ],
    λ h. (a.at k i e).1 (elim h [ inl o ↦ inl ((m.at k i e).1 o) | inr o ↦ inr o.0 ]),
  );
}

-- whether the bundle is before the base
pub before : (repo : List Patch) (b : Contents) (n : ℕ) (marks : List Bool) → AreMarksOf marks (infos_of repo) (Common repo b) → KnowsContext repo b → (HasAll repo b → ⊥) →
    (All (λ (m : Bool). m ≡ true) (take n marks) → ⊥) ↔ IsBeforeBase repo n b
before repo b n marks m known is_new =
    let f = first_set (infos_of repo) marks n (Common repo b) m in
    let e = infos_take repo n in (
      λ some. record { knows = known; is_new = is_new; lacks = λ a. some (f.1 (rw e a)) },
      λ h a. h.lacks (rw e at (f.0 a)),
    )

-- a test that says no
pub not_all : (b : Bool) {P : Type 0} → (IsTrue b ↔ P) → IsTrue (not b) ↔ (P → ⊥)
not_all true f = (λ t. absurd (cc), λ out. absurd (out (f.0 refl)))
not_all false f = (λ t p. let z : false ≡ true = f.1 p in absurd (cc), λ out. refl)
