-- What is left of the names of a context.
use Rattle.std.proofs.Common.{◌≡◌, ◌⊎◌, inl, inr, ◌<◌, ◌≤◌, ◌+◌, ◌-◌, ℕ, zero, suc, List, [], ◌∷◌, ◌++◌, length, take, get_or, slice_get, Some, refl, sym, ap, subst, ◌∙◌, arith}
use Rattle.std.specs.List.{Contains}
use Rattle.std.proofs.lemmas.List.{same_from_push, take_more}
use Rattle.dm_info.specs.PatchInfo.{PatchInfo}
use Rattle.dm_named.specs.Patches.{Patch}
use Rattle.dm_bundle.specs.Patches.{infos_of}
use Rattle.dm_bundle.specs.Bundles.{HasNoDoubles}
use Rattle.dm_repo.proofs.Members.{here, more, one_of}
use Rattle.dm_begin.specs.Bases.{CutsNames, Without, no_names, goes, stays}

-- one name more
pub goes_more : (gone : List PatchInfo) {all left : List PatchInfo} (x : PatchInfo) → Contains gone x → Without gone all left → Without gone (all ++ x ∷ []) left
goes_more gone x c no_names = goes c no_names
goes_more gone x c (goes k w) = goes k (goes_more gone x c w)
goes_more gone x c (stays k w) = stays k (goes_more gone x c w)

pub stays_more : (gone : List PatchInfo) {all left : List PatchInfo} (x : PatchInfo) → (Contains gone x → ⊥) → Without gone all left → Without gone (all ++ x ∷ []) (left ++ x ∷ [])
stays_more gone x c no_names = stays c no_names
stays_more gone x c (goes k w) = goes k (stays_more gone x c w)
stays_more gone x c (stays k w) = stays k (stays_more gone x c w)

pub without_one : (gone : List PatchInfo) (list left left' : List PatchInfo) (k : ℕ) (x y : PatchInfo) → k < length list → x ≡ get_or list k x → y ≡ x → left' ≡ left ++ y ∷ [] → (Contains gone x → ⊥) →
    Without gone (take k list) left → Without gone (take (k + 1) list) left'
without_one gone list left left' k x y l e copied new out w =
    let t : take (k + 1) list ≡ take k list ++ x ∷ [] = take_more list k x l ∙ ap (λ z. take k list ++ z ∷ []) (sym e) in
    rw (t, new, copied) (stays_more gone x out w)

pub without_none : (gone : List PatchInfo) (list left : List PatchInfo) (k : ℕ) (x : PatchInfo) → k < length list → x ≡ get_or list k x → Contains gone x →
    Without gone (take k list) left → Without gone (take (k + 1) list) left
without_none gone list left k x l e c w =
    let t : take (k + 1) list ≡ take k list ++ x ∷ [] = take_more list k x l ∙ ap (λ z. take k list ++ z ∷ []) (sym e) in
    rw t (goes_more gone x c w)

-- what is left is one of all, and what isn't left is gone
pub was_there : {gone all left : List PatchInfo} → Without gone all left → (i : PatchInfo) → Contains left i → Contains all i
was_there no_names i c = c
was_there (goes {i = x} {all} k w) i c = more x all (was_there w i c)
was_there (stays {i = x} {all} {left} k w) i c = elim (one_of x left c) [ inl e ↦ subst (λ (z : PatchInfo). Contains (x ∷ all) z) e (here x all) | inr h ↦ more x all (was_there w i h) ]

pub left_or_gone : {gone all left : List PatchInfo} → Without gone all left → (i : PatchInfo) → Contains all i → Contains left i ⊎ Contains gone i
left_or_gone no_names i c = inl c
left_or_gone {gone} (goes {i = x} {all} k w) i c = elim (one_of x all c) [ inl e ↦ inr (subst (λ (z : PatchInfo). Contains gone z) e k) | inr h ↦ left_or_gone w i h ]
left_or_gone {gone} (stays {i = x} {all} {left} k w) i c = elim (one_of x all c) [
  | inl e ↦ inl (subst (λ (z : PatchInfo). Contains (x ∷ left) z) e (here x left))
  | inr h ↦ elim (left_or_gone w i h) [ inl a ↦ inl (more x left a) | inr a ↦ inr a ]
]

-- nothing that is left is doubled
pub no_doubles_left : (patches : List Patch) {gone all left : List PatchInfo} → HasNoDoubles patches all → Without gone all left → HasNoDoubles patches left
no_doubles_left patches d w = record { distinct = d.distinct; apart = λ i h c. d.apart i h (was_there w i c) }

-- so many names from the first, with the last of them
pub last_of : (repo : List Patch) (n : ℕ) (x : Patch) → 0 < n → n ≤ length repo → slice_get repo (n - 1) ≡ Some x → infos_of (take n repo) ≡ take (n - 1) (infos_of repo) ++ x.info ∷ []
last_of [] n x o l e = absurd (cc)
last_of (y ∷ ys) zero x o l e = absurd (omega (arith, o))
last_of (y ∷ ys) (suc zero) x o l e = let f : slice_get (y ∷ ys) 0 ≡ Some x = e in let g : y ≡ x = cc in ap (λ (z : Patch). z.info ∷ []) g
last_of (y ∷ ys) (suc (suc n)) x o l e =
    let a : suc (suc n) - 1 ≡ suc n = omega arith in
    let b : suc n - 1 ≡ n = omega arith in
    let f : slice_get ys (suc n - 1) ≡ Some x = rw b (rw a at e) in
    let r = rw b at (last_of ys (suc n) x (omega arith) (omega (arith, l)) f) in
    rw a (ap (λ z. y.info ∷ z) r)

-- the names have the last one
pub cut_names : (repo : List Patch) (n : ℕ) (x : Patch) (names left : List PatchInfo) → 0 < n → n ≤ length repo → slice_get repo (n - 1) ≡ Some x → Contains names x.info → Without (take (n - 1) (infos_of repo)) names left →
    CutsNames (infos_of (take n repo)) names left
cut_names repo n x names left o l e c w = inl (record { before = take (n - 1) (infos_of repo); last = x.info; is_last = last_of repo n x o l e; has_last = c; leaves = w })

-- they don't have it
pub keep_names : (repo : List Patch) (n : ℕ) (x : Patch) (names : List PatchInfo) → 0 < n → n ≤ length repo → slice_get repo (n - 1) ≡ Some x → (Contains names x.info → ⊥) → CutsNames (infos_of (take n repo)) names names
keep_names repo n x names o l e out =
    inr (λ i last c. out (subst (λ (z : PatchInfo). Contains names z) (sym (same_from_push (take (n - 1) (infos_of repo)) last.0 x.info i (sym (last_of repo n x o l e) ∙ last.1)).1) c), refl)

-- there is no base
pub keep_all : (repo : List Patch) (n : ℕ) (names : List PatchInfo) → n ≡ 0 → CutsNames (infos_of (take n repo)) names names
keep_all repo n names z = subst (λ (j : ℕ). CutsNames (infos_of (take j repo)) names names) (sym z) (inr (λ i last c. absurd (never i last.0 last.1), refl))
  where
    never : (i : PatchInfo) (before : List PatchInfo) → [] ≡ before ++ i ∷ [] → ⊥
    never i [] e = absurd (cc)
    never i (y ∷ ys) e = absurd (cc)
