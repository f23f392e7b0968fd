-- The names so far, in a list and in a set.
use Rattle.std.proofs.Common.{◌≡◌, ◌↔◌, ◌⊎◌, ◌<◌, ◌≤◌, ◌+◌, ℕ, zero, suc, List, [], ◌∷◌, ◌++◌, length, take, get_or, slice_get, Some, inl, inr, refl, sym, ap, subst, ◌∙◌, arith}
use Rattle.std.specs.List.{Contains}
use Rattle.std.proofs.lemmas.List.{take_all, take_more}
use Rattle.std.proofs.lemmas.List.Elements.{Contains-append_left, Contains-push, Contains-push_cases}
use Rattle.dm_info.specs.PatchInfo.{PatchInfo}
use Rattle.dm_bundle.specs.Patches.{Distinct}
use Rattle.dm_repo.proofs.Members.{distinct_on, none_of, one_of}
use Rattle.dm_begin.specs.Refusals.{IsTwice}

-- so many names are distinct, and in the set
pub record Noted (names : List PatchInfo) (k : ℕ) (set : List PatchInfo) : Type 0 where
  pub distinct : Distinct (take k names)
  pub same : (i : PatchInfo) → Contains set i ↔ Contains (take k names) i

pub noted_first : (names set : List PatchInfo) → set ≡ [] → Noted names 0 set
noted_first names set e = record { distinct = tt; same = λ i. (λ c. subst (λ (l : List PatchInfo). Contains l i) e c, λ c. subst (λ (l : List PatchInfo). Contains l i) (sym e) c) }

get_there : (xs : List PatchInfo) (k : ℕ) (d : PatchInfo) → k < length xs → slice_get xs k ≡ Some (get_or xs k d)
get_there [] k d l = absurd (omega (arith, l))
get_there (x ∷ xs) zero d l = refl
get_there (x ∷ xs) (suc k) d l = get_there xs k d (omega (arith, l))

module _ (names : List PatchInfo) (k : ℕ) (x y : PatchInfo) (l : k < length names) (e : x ≡ get_or names k x) (copied : y ≡ x) (set : List PatchInfo) (so_far : Noted names k set) where
  one_more : take (k + 1) names ≡ take k names ++ x ∷ []
  one_more = take_more names k x l ∙ ap (λ z. take k names ++ z ∷ []) (sym e)

  -- a name that was in the set stands twice
  pub twice_here : Contains set y → IsTwice names k
  twice_here c = record {
    name = x;
    here = get_there names k x l ∙ ap Some (sym e);
    before = subst (λ (z : PatchInfo). Contains (take k names) z) copied ((so_far.same y).0 c);
    first = so_far.distinct;
  }

  -- one that was not is noted
  pub noted_more : (set' : List PatchInfo) → (Contains set y → ⊥) → ((i : PatchInfo) → Contains set' i ↔ (Contains set i ⊎ (i ≡ y))) → Noted names (k + 1) set'
  noted_more set' out new = record {
    distinct = subst Distinct (sym one_more) (distinct_on (take k names) (x ∷ []) so_far.distinct (none_of, tt) (λ i h c. elim (one_of x [] c) [
      | inl s ↦ out ((so_far.same y).1 (subst (λ (z : PatchInfo). Contains (take k names) z) (sym (copied ∙ s)) h))
      | inr n ↦ none_of n
    ]));
    same = λ i. (
      λ h. subst (λ (z : List PatchInfo). Contains z i) (sym one_more) (elim ((new i).0 h) [
        | inl c ↦ Contains-append_left (take k names) (x ∷ []) i ((so_far.same i).0 c)
        | inr s ↦ subst (λ (z : PatchInfo). Contains (take k names ++ x ∷ []) z) (sym (s ∙ copied)) (Contains-push (take k names) x)
      ]),
      λ h. elim (Contains-push_cases (take k names) x i (subst (λ (z : List PatchInfo). Contains z i) one_more h)) [
        | inl c ↦ (new i).1 (inl ((so_far.same i).1 c))
        | inr s ↦ (new i).1 (inr (sym s ∙ sym copied))
      ],
    );
  }

pub all_noted : (names : List PatchInfo) (k : ℕ) (set : List PatchInfo) → length names ≤ k → Noted names k set → Distinct names
all_noted names k set l n = subst Distinct (take_all k names l) n.distinct
