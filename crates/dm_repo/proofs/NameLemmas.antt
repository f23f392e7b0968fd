-- Names in the order of their patches, and the place that a look-up finds.
use Rattle.std.proofs.Common.{◌≡◌, ◌<◌, ◌↔◌, ℕ, zero, suc, nat_lt, IsTrue, Bool, true, false, List, [], ◌∷◌, ◌++◌, Option, Some, None, Result, Ok, Err, IfOk, IsOk, length, take, get_or, slice_get, position, is_some, MatchOption, inl, inr, refl, sym, ap, subst, ◌∙◌, arith, append_assoc}
use Rattle.std.specs.List.{Contains, list_any}
use Rattle.std.proofs.lemmas.Bool.{false≢true, ltb-true, lt-ltb}
use Rattle.std.proofs.lemmas.List.Elements.{Contains-append_right}
use Rattle.std.proofs.lemmas.List.Folds.{list_any_at}
use Rattle.std.proofs.lemmas.List.Quantifiers.{position-Some}
use Rattle.std.proofs.lemmas.Option.{slice_get-get_or}
use Rattle.indexmap.specs.IndexSet.{insert_key}
use Rattle.indexmap.proofs.CallerLemmas.{Contains-list_any}
use Rattle.dm_info.specs.PatchInfo.{PatchInfo}
use Rattle.dm_info.specs.Compared.{info_eq}
use Rattle.dm_info.specs.ComparedLaws.{info_same, same_info}
use Rattle.dm_bundle.specs.Patches.{Distinct}
use Rattle.dm_repo.proofs.Members.{here, one_of, none_of}
use Rattle.dm_repo.proofs.MarksLemmas.{one_place, in_take_at}

-- a name that the index finds is there, and one that it doesn't find isn't
pub place_found : (keys : List PatchInfo) (name : PatchInfo) (i : ℕ) → position (info_eq name) keys ≡ Some i → slice_get keys i ≡ Some name
place_found keys name i e =
    let p = position-Some (info_eq name) keys i name e in
    slice_get-get_or keys i name p.0 ∙ ap Some (sym (info_same name (get_or keys i name) p.1))

pub none_found : (keys : List PatchInfo) (name : PatchInfo) → list_any (info_eq name) keys ≡ false → Contains keys name → ⊥
none_found keys name e (k, l, h) = false≢true (sym e ∙ list_any_at (info_eq name) keys k name l (same_info name (get_or keys k name) (sym h)))

-- a name that stands after others isn't among them
pub apart : (keys : List PatchInfo) (name : PatchInfo) (more : List PatchInfo) → Distinct (keys ++ name ∷ more) → Contains keys name → ⊥
apart [] name more d h = none_of h
apart (k ∷ keys) name more d h = elim (one_of k keys h) [
  | inl e ↦ d.0 (rw e (Contains-append_right keys (name ∷ more) name (here name more)))
  | inr c ↦ apart keys name more d.1 c
]

-- so it goes last
pub goes_last : (keys : List PatchInfo) (name : PatchInfo) (more : List PatchInfo) → Distinct (keys ++ name ∷ more) → insert_key info_eq keys name ≡ keys ++ name ∷ []
goes_last keys name more d = by (list_any (info_eq name) keys) refl
  where
    by : (b : Bool) → list_any (info_eq name) keys ≡ b → insert_key info_eq keys name ≡ keys ++ name ∷ []
    by true e = absurd (apart keys name more d (Contains-list_any info_eq info_same keys name e))
    by false e = rw e refl

-- and with it there, what is left still makes all of them
pub inserted : {T E : Type 0} (r : Result T E) (keys : List PatchInfo) (name : PatchInfo) (more new : List PatchInfo) {all : List PatchInfo} → IsOk r → IfOk r (λ _. new ≡ insert_key info_eq keys name) →
    keys ++ name ∷ more ≡ all → Distinct all → new ++ more ≡ all
inserted (Ok x) keys name more new y e whole d = rw (e ∙ goes_last keys name more (rw whole d)) (append_assoc keys (name ∷ []) more ∙ whole)
inserted (Err x) keys name more new y e whole d = absurd (false≢true y)

-- what a look-up answers
pub looked_up : (keys : List PatchInfo) (name : PatchInfo) (r : Option ℕ) → r ≡ position (info_eq name) keys → is_some r ≡ list_any (info_eq name) keys →
    MatchOption r (Contains keys name → ⊥) (λ i. slice_get keys i ≡ Some name)
looked_up keys name None p f = none_found keys name (sym f)
looked_up keys name (Some i) p f = place_found keys name i (sym p)

pub no_length : {X : Type 0} (xs : List X) → length xs ≡ 0 → xs ≡ []
no_length [] e = refl
no_length (x ∷ xs) e = absurd (omega (arith, e))

-- of distinct names those before a place are the first of the list
found_before : (keys : List PatchInfo) (n : ℕ) {name : PatchInfo} → Contains (take n keys) name → (k : ℕ) × (k < n) × (slice_get keys k ≡ Some name)
found_before keys zero c = absurd (none_of c)
found_before [] (suc n) c = absurd (none_of c)
found_before (k ∷ keys) (suc n) c = elim (one_of k (take n keys) c) [
  | inl e ↦ (0, omega arith, ap Some e)
  | inr d ↦ let r = found_before keys n d in (suc r.0, omega (arith, r.1), r.2)
]

pub is_before : (keys : List PatchInfo) (name : PatchInfo) (k n : ℕ) → Distinct keys → slice_get keys k ≡ Some name → IsTrue (nat_lt k n) ↔ Contains (take n keys) name
is_before keys name k n d e = (
  λ l. in_take_at keys n k (ltb-true k n l) e,
  λ c. let r = found_before keys n c in lt-ltb k n (subst (λ (j : ℕ). j < n) (one_place keys r.0 k d r.2 e) r.1),
)
