-- What the last name of a base brings with it, and what is left in a closed set where the others are cut.
use Rattle.std.proofs.Common.{◌≡◌, ◌↔◌, ◌⊎◌, inl, inr, ℕ, zero, suc, List, [], ◌∷◌, ◌++◌, take, sym, subst, ◌∙◌, take-append-drop}
use Rattle.std.specs.List.{Contains}
use Rattle.std.proofs.lemmas.List.{same_from_push}
use Rattle.std.proofs.lemmas.List.Elements.{Contains-append_left}
use Rattle.dm_info.specs.PatchInfo.{PatchInfo}
use Rattle.dm_named.specs.Patches.{Patch}
use Rattle.dm_bundle.specs.Patches.{infos_of, Distinct}
use Rattle.dm_repo.specs.CommonSets.{Closed, given, needed, HoldsAll}
use Rattle.dm_repo.proofs.Members.{here, more, one_of, none_of}
use Rattle.dm_begin.specs.Bases.{CutsNames, IsBase, IsLast, LeavesLastAlone}
use Rattle.dm_begin.specs.BaseLaws.{BaseIsBrought, LastBringsAll}
use Rattle.dm_begin.specs.Beginnings.{IsChain}
use Rattle.dm_begin.proofs.CutLemmas.{left_or_gone, was_there}

-- what is in the closed set of names that are in another one is in that
closed_on : (repo : List Patch) (those these : List PatchInfo) {i : PatchInfo} → ((j : PatchInfo) → Contains those j → Closed repo these j) → Closed repo those i → Closed repo these i
closed_on repo those these {i} f (given c) = f i c
closed_on repo those these f (needed m c d) = needed m (closed_on repo those these f c) d

-- in a chain the last one brings the others
later_last : (x y : PatchInfo) (ys : List PatchInfo) (last : PatchInfo) → IsLast (x ∷ y ∷ ys) last → IsLast (y ∷ ys) last
later_last x y ys last ([], e) = absurd (cc)
later_last x y ys last (z ∷ before, e) = let f : y ∷ ys ≡ before ++ last ∷ [] = cc in (before, f)

chain_brings : (repo : List Patch) (context deps : List PatchInfo) (xs : List Patch) → ((x : Patch) → Contains xs x → Contains repo x) → IsChain deps xs → (last : PatchInfo) → IsLast (infos_of xs) last →
    Closed repo context last → (i : PatchInfo) → Contains (infos_of xs) i → Closed repo context i
chain_brings repo context deps [] held c last e k i h = absurd (none_of h)
chain_brings repo context deps (x ∷ []) held c last (before, e) k i h = elim (one_of x.info [] h) [
  | inl q ↦ let f : x.info ≡ last = (same_from_push [] before x.info last e).1 in subst (λ (z : PatchInfo). Closed repo context z) (sym f ∙ q) k
  | inr n ↦ absurd (none_of n)
]
chain_brings repo context deps (x ∷ y ∷ ys) held c last e k i h =
    let rest : (j : PatchInfo) → Contains (infos_of (y ∷ ys)) j → Closed repo context j =
    chain_brings repo context (x.info ∷ []) (y ∷ ys) (λ z m. held z (more x (y ∷ ys) m)) c.1 last (later_last x.info y.info (infos_of ys) last e) k in
    elim (one_of x.info (infos_of (y ∷ ys)) h) [
      | inl q ↦ subst (λ (z : PatchInfo). Closed repo context z) q
          (needed (held y (more x (y ∷ ys) (here y ys))) (rest y.info (here y.info (infos_of ys))) (subst (λ (l : List PatchInfo). Contains l x.info) (sym c.1.0) (here x.info [])))
      | inr m ↦ rest i m
    ]

pub base_is_brought : BaseIsBrought
base_is_brought repo n b last i e h = by b.is_base
  where
    by : (n ≡ 0) ⊎ IsBase (take n repo) → Closed repo (last ∷ []) i
    by (inl z) = absurd (none_of (subst (λ (j : ℕ). Contains (infos_of (take j repo)) i) z h))
    by (inr c) =
        chain_brings repo (last ∷ []) [] (take n repo)
        (λ x m. subst (λ (l : List Patch). Contains l x) (take-append-drop n repo) (Contains-append_left (take n repo) _ x m))
        c.chained last e (given (here last [])) i h

-- the last of distinct names isn't one of those before it
distinct_last : (xs : List PatchInfo) (x : PatchInfo) → Distinct (xs ++ x ∷ []) → Contains xs x → ⊥
distinct_last [] x d c = none_of c
distinct_last (y ∷ ys) x d c = elim (one_of y ys c) [
  | inl e ↦ d.0 (subst (λ (z : PatchInfo). Contains (ys ++ x ∷ []) z) (sym e) (at_end ys x))
  | inr m ↦ distinct_last ys x d.1 m
]
  where
    at_end : (zs : List PatchInfo) (z : PatchInfo) → Contains (zs ++ z ∷ []) z
    at_end [] z = here z []
    at_end (w ∷ zs) z = more w (zs ++ z ∷ []) (at_end zs z)

held_take : (xs : List Patch) (n : ℕ) {i : PatchInfo} → Contains (infos_of (take n xs)) i → Contains (infos_of xs) i
held_take xs zero c = absurd (none_of c)
held_take [] (suc n) c = c
held_take (x ∷ xs) (suc n) {i} c = elim (one_of x.info (infos_of (take n xs)) c) [
  | inl e ↦ subst (λ (z : PatchInfo). Contains (x.info ∷ infos_of xs) z) e (here x.info (infos_of xs))
  | inr m ↦ more x.info (infos_of xs) (held_take xs n m)
]

pub distinct_take : (xs : List Patch) (n : ℕ) → Distinct (infos_of xs) → Distinct (infos_of (take n xs))
distinct_take xs zero d = tt
distinct_take [] (suc n) d = tt
distinct_take (x ∷ xs) (suc n) d = (λ c. d.0 (held_take xs n c), distinct_take xs n d.1)

-- the names of a context, some of which are cut
module _ (repo : List Patch) (base names left : List PatchInfo) (distinct : Distinct base) (brings : LastBringsAll repo base) where
  pub cut_held : CutsNames base names left → HoldsAll repo names → HoldsAll repo left
  cut_held (inl a) h i c = h i (was_there a.leaves i c)
  cut_held (inr a) h i c = h i (subst (λ (l : List PatchInfo). Contains l i) a.1 c)

  last_stays : (a : LeavesLastAlone base names left) → Contains left a.last
  last_stays a = elim (left_or_gone a.leaves a.last a.has_last) [
    | inl c ↦ c
    | inr g ↦ absurd (distinct_last a.before a.last (subst Distinct a.is_last distinct) g)
  ]

  pub cut_closed : CutsNames base names left → (i : PatchInfo) → Closed repo names i ↔ Closed repo left i
  cut_closed (inl a) i = (
    closed_on repo names left (λ j c. elim (left_or_gone a.leaves j c) [
      | inl h ↦ given h
      | inr g ↦ closed_on repo (a.last ∷ []) left
          (λ z h. elim (one_of a.last [] h) [ inl e ↦ given (subst (λ (w : PatchInfo). Contains left w) e (last_stays a)) | inr n ↦ absurd (none_of n) ])
          (brings a.last j (a.before, a.is_last) (subst (λ (l : List PatchInfo). Contains l j) (sym a.is_last) (Contains-append_left a.before (a.last ∷ []) j g)))
    ]),
    closed_on repo left names (λ j c. given (was_there a.leaves j c)),
  )
  cut_closed (inr a) i = (
    closed_on repo names left (λ j c. given (subst (λ (l : List PatchInfo). Contains l j) (sym a.1) c)),
    closed_on repo left names (λ j c. given (subst (λ (l : List PatchInfo). Contains l j) a.1 c)),
  )
