-- Sets of patch infos, and whether one list's members are all in another.
use Rattle.std.proofs.Common.{◌≡◌, ◌↔◌, ◌⊎◌, ◌<◌, ◌+◌, ℕ, List, [], ◌∷◌, ◌++◌, length, take, get_or, inl, inr, sym, ap, subst, ◌∙◌}
use Rattle.std.specs.List.{Contains}
use Rattle.std.proofs.lemmas.List.{take_more}
use Rattle.std.proofs.lemmas.List.Elements.{Contains-append_left, Contains-push, Contains-push_cases}
use Rattle.dm_info.specs.PatchInfo.{PatchInfo}

-- one more is in the set
pub set_more : (xs : List PatchInfo) (k : ℕ) (x : PatchInfo) (old new : List PatchInfo) (y : PatchInfo) → k < length xs → x ≡ get_or xs k x → y ≡ x →
    ((i : PatchInfo) → Contains new i ↔ (Contains old i ⊎ (i ≡ y))) → ((i : PatchInfo) → Contains old i ↔ Contains (take k xs) i) → (i : PatchInfo) → Contains new i ↔ Contains (take (k + 1) xs) i
set_more xs k x old new y l e same f g i =
    let more : take (k + 1) xs ≡ take k xs ++ x ∷ [] = take_more xs k x l ∙ ap (λ z. take k xs ++ z ∷ []) (sym e) in
    rw more (
      (λ h. elim ((f i).0 h) [
        | inl c ↦ Contains-append_left (take k xs) (x ∷ []) i ((g i).0 c)
        | inr s ↦ subst (λ (z : PatchInfo). Contains (take k xs ++ x ∷ []) z) (sym (s ∙ same)) (Contains-push (take k xs) x)
      ]),
      (λ h. elim (Contains-push_cases (take k xs) x i h) [ inl c ↦ (f i).1 (inl ((g i).1 c)) | inr s ↦ (f i).1 (inr (sym s ∙ sym same)) ]),
    )

-- all so far and one more are among the others
pub among_more : (xs others : List PatchInfo) (k : ℕ) (x : PatchInfo) → k < length xs → x ≡ get_or xs k x → Contains others x →
    ((i : PatchInfo) → Contains (take k xs) i → Contains others i) → (i : PatchInfo) → Contains (take (k + 1) xs) i → Contains others i
among_more xs others k x l e c f i h =
    let more : take (k + 1) xs ≡ take k xs ++ x ∷ [] = take_more xs k x l ∙ ap (λ z. take k xs ++ z ∷ []) (sym e) in
    elim (Contains-push_cases (take k xs) x i (subst (λ (z : List PatchInfo). Contains z i) more h)) [
      | inl d ↦ f i d
      | inr s ↦ subst (λ (z : PatchInfo). Contains others z) s c
    ]

pub member_at : (xs : List PatchInfo) (k : ℕ) (x : PatchInfo) → k < length xs → x ≡ get_or xs k x → Contains xs x
member_at xs k x l e = (k, l, sym (e))
