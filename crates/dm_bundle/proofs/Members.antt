-- Members of lists of patch infos, and lists without doubles.
use Rattle.std.proofs.Common.{◌≡◌, ◌<◌, ◌+◌, ℕ, zero, suc, List, [], ◌∷◌, ◌++◌, take, length, get_or, sym, ap, subst, ◌∙◌, inl, inr, arith, ◌⊎◌}
use Rattle.std.specs.Prelude.{Contains}
use Rattle.std.proofs.lemmas.List.{map-append, take_more}
use Rattle.std.proofs.lemmas.List.Elements.{Contains-push_cases, Contains-append_right}
use Rattle.dm_info.specs.PatchInfo.{PatchInfo}
use Rattle.dm_named.specs.Patches.{Patch}
use Rattle.dm_bundle.specs.Patches.{infos_of, Distinct}
use Rattle.dm_bundle.specs.Context.{AreDisjoint}

pub none_of : (i : PatchInfo) → Contains [] i → ⊥
none_of i h = omega arith

pub here : (i j : PatchInfo) (is : List PatchInfo) → j ≡ i → Contains (j ∷ is) i
here i j is e = (0, omega arith, e)

later : (i j : PatchInfo) (is : List PatchInfo) → Contains is i → Contains (j ∷ is) i
later i j is (k, l, e) = (suc k, omega arith, e)

one_of : (i j : PatchInfo) (is : List PatchInfo) → Contains (j ∷ is) i → (j ≡ i) ⊎ Contains is i
one_of i j is (zero, l, e) = inl e
one_of i j is (suc k, l, e) = inr (k, omega arith, e)

pub distinct_more : (is : List PatchInfo) (i : PatchInfo) → Distinct is → (Contains is i → ⊥) → Distinct (is ++ i ∷ [])
distinct_more [] i d n = (none_of i, tt)
distinct_more (j ∷ is) i d n = (λ h. elim (Contains-push_cases is i j h) [ inl k ↦ d.0 k | inr e ↦ n (here i j is (sym e)) ], distinct_more is i d.1 (λ k. n (later i j is k)))

pub distinct_at : (is : List PatchInfo) (i : PatchInfo) (js : List PatchInfo) → Distinct (is ++ i ∷ js) → Contains is i → ⊥
distinct_at [] i js d h = none_of i h
distinct_at (j ∷ is) i js d h = elim (one_of i j is h) [ inl e ↦ d.0 (Contains-append_right is (i ∷ js) j (here j i js (sym e))) | inr k ↦ distinct_at is i js d.1 k ]

pub apart_more : (new is : List PatchInfo) (i : PatchInfo) → AreDisjoint new is → (Contains new i → ⊥) → AreDisjoint new (is ++ i ∷ [])
apart_more new is i a n = λ j h k. elim (Contains-push_cases is i j k) [ inl m ↦ a j h m | inr e ↦ n (subst (Contains new) (sym e) h) ]

pub infos_more : (ps : List Patch) (p : Patch) → infos_of (ps ++ p ∷ []) ≡ infos_of ps ++ p.info ∷ []
infos_more ps p = map-append (λ (q : Patch). q.info) ps (p ∷ [])

-- ---- by index

pub info_in : (ps : List Patch) (k : ℕ) (p : Patch) (i : PatchInfo) → k < length ps → p ≡ get_or ps k p → p.info ≡ i → Contains (infos_of ps) i
info_in [] k p i lt is e = absurd (omega arith)
info_in (q ∷ ps) zero p i lt is e = here i q.info (infos_of ps) (ap (λ (x : Patch). x.info) (sym is) ∙ e)
info_in (q ∷ ps) (suc k) p i lt is e = later i q.info (infos_of ps) (info_in ps k p i (omega arith) is e)

-- one patch further none has this patch info
pub none_more : (ps : List Patch) (k : ℕ) (p : Patch) (i : PatchInfo) → k < length ps → p ≡ get_or ps k p → (Contains (infos_of (take k ps)) i → ⊥) → (p.info ≡ i → ⊥) → Contains (infos_of (take (k + 1) ps)) i → ⊥
none_more ps k p i lt is none other h =
    let e : infos_of (take (k + 1) ps) ≡ infos_of (take k ps) ++ p.info ∷ [] = rw (take_more ps k p lt, ← is) (infos_more (take k ps) p) in
    elim (Contains-push_cases (infos_of (take k ps)) p.info i (subst (λ (is : List PatchInfo). Contains is i) e h)) [ inl m ↦ none m | inr f ↦ other f ]

pub distinct_further : (ps : List Patch) (k : ℕ) (p : Patch) → k < length ps → p ≡ get_or ps k p → Distinct (infos_of (take k ps)) → (Contains (infos_of (take k ps)) p.info → ⊥) → Distinct (infos_of (take (k + 1) ps))
distinct_further ps k p lt is d none =
    let e : infos_of (take (k + 1) ps) ≡ infos_of (take k ps) ++ p.info ∷ [] = rw (take_more ps k p lt, ← is) (infos_more (take k ps) p) in
    subst Distinct (sym e) (distinct_more (infos_of (take k ps)) p.info d none)

pub doubled_at : (ps : List Patch) (k : ℕ) (p : Patch) → k < length ps → p ≡ get_or ps k p → Contains (infos_of (take k ps)) p.info → Distinct (infos_of ps) → ⊥
doubled_at [] k p lt is h d = absurd (omega arith)
doubled_at (q ∷ ps) zero p lt is h d = none_of p.info h
doubled_at (q ∷ ps) (suc k) p lt is h d = elim (one_of p.info q.info (infos_of (take k ps)) h) [ inl e ↦ d.0 (info_in ps k p q.info (omega arith) is (sym e)) | inr m ↦ doubled_at ps k p (omega arith) is m d.1 ]

pub apart_further : (new context : List PatchInfo) (k : ℕ) (i : PatchInfo) → k < length context → i ≡ get_or context k i → AreDisjoint new (take k context) → (Contains new i → ⊥) → AreDisjoint new (take (k + 1) context)
apart_further new context k i lt is a none = rw (take_more context k i lt, ← is) (apart_more new (take k context) i a none)
