-- Which patches of a bundle are new, and which are merged.
use Rattle.std.proofs.Common.{◌≡◌, ◌⊎◌, inl, inr, ℕ, ◌+◌, List, [], ◌∷◌, ◌++◌, refl, ap, ap₂, ◌∙◌}
use Rattle.std.specs.List.{Contains}
use Rattle.dm_info.specs.PatchInfo.{PatchInfo}
use Rattle.dm_prim.specs.Rectangles.{CellRow, none, next}
use Rattle.dm_named.specs.Patches.{Patch}
use Rattle.dm_bundle.specs.Patches.{infos_of, Distinct}
use Rattle.dm_bundle.specs.Bundles.{Contents}
use Rattle.dm_repo.specs.declared.policy.Policy.{Policy}
use Rattle.dm_repo.specs.declared.policy.Policy.TheVariants.{Refuse, Skip}
use Rattle.dm_repo.specs.Staircases.{Split, nothing, stays, yields}
use Rattle.dm_repo.specs.Merging.{MergeRectangle, bare, over}
use Rattle.dm_repo.specs.Sifting.{Sifts, ends, MergesUnder}
use Rattle.dm_repo.specs.Squares.{Placed, placed_from, patches, PlacedCommutes, PlacedMerges}
use Rattle.dm_repo.specs.Repositories.{Holds}
use Rattle.dm_repo.specs.Weighing.{IsHeld, IsMergeOf}
use Rattle.dm_repo.proofs.Members.{here, more, one_of, none_of}
use Rattle.dm_repo.proofs.Placed.{patches_placed}
use Rattle.dm_repo.proofs.Keeps.{chosen_new}
use Rattle.dm_repo.proofs.SiftLemmas.{policies_agree}
use Rattle.dm_repo.proofs.SiftedNames.{sift_names}
use Rattle.dm_converge.proofs.Names.{rest_has}
use Rattle.dm_converge.proofs.Labels.{info_told}

-- whether a name is among others can be told, and whether any of some is
pub name_told : (is : List PatchInfo) (i : PatchInfo) → Contains is i ⊎ (Contains is i → ⊥)
name_told [] i = inr none_of
name_told (j ∷ is) i = elim (info_told j i) [
  | inl e ↦ inl (rw e (here i is))
  | inr n ↦ elim (name_told is i) [ inl c ↦ inl (more j is c) | inr m ↦ inr (λ c. elim (one_of j is c) [ inl e ↦ n e | inr d ↦ m d ]) ]
]

pub some_told : (is js : List PatchInfo) → ((i : PatchInfo) × Contains is i × Contains js i) ⊎ ((i : PatchInfo) → Contains is i → Contains js i → ⊥)
some_told [] js = inr (λ i c. absurd (none_of c))
some_told (i ∷ is) js = elim (name_told js i) [
  | inl c ↦ inl (i, here i is, c)
  | inr n ↦ elim (some_told is js) [
    | inl r ↦ inl (r.0, more i is r.1, r.2)
    | inr m ↦ inr (λ j c d. elim (one_of i is c) [ inl e ↦ n (rw e d) | inr h ↦ m j h d ])
  ]
]

-- where none is held all are new, as they stand
strip_bare : {x x' : Placed} {ys ys' : List Placed} → CellRow PlacedCommutes x ys ys' x' → ys ≡ [] → (ys' ≡ []) × (x' ≡ x)
strip_bare none e = (refl, refl)
strip_bare (next c s) e = absurd (cc)

pub none_held : (repo : List Patch) {xs front rest : List Placed} → Split PlacedCommutes (IsHeld repo) xs front rest →
    ((i : PatchInfo) → Contains (infos_of (patches xs)) i → Holds repo i → ⊥) → (front ≡ []) × (rest ≡ xs)
none_held repo nothing n = (refl, refl)
none_held repo (stays {h} {xs} held s) n = absurd (n h.1.info (here h.1.info (infos_of (patches xs))) held)
none_held repo (yields {r} {xs} o s t) n =
    let a = none_held repo s (λ i c. n i (more r.1.info (infos_of (patches xs)) c)) in
    let b = strip_bare t a.0 in (b.0, ap₂ (λ x l. x ∷ l) b.1 a.1)

-- where none of those behind is held, they are new, as they stand
pub held_before : (repo : List Patch) (xs ys : List Placed) {front rest : List Placed} → Split PlacedCommutes (IsHeld repo) (xs ++ ys) front rest →
    ((i : PatchInfo) → Contains (infos_of (patches ys)) i → Holds repo i → ⊥) → (new : List Placed) × (rest ≡ new ++ ys) × Split PlacedCommutes (IsHeld repo) xs front new
held_before repo [] ys s n = let e = none_held repo s n in ([], e.1, rw e.0 nothing)
held_before repo (x ∷ xs) ys (stays held s) n = let a = held_before repo xs ys s n in (a.0, a.1, stays held a.2)
held_before repo (x ∷ xs) ys (yields {r'} o s t) n = let a = held_before repo xs ys s n in (r' ∷ a.0, ap (λ l. r' ∷ l) a.1, yields o a.2 t)

-- the patches behind, with their places
pub placed_behind : (n : ℕ) (xs ys : List Patch) → (zs : List Placed) × (placed_from n (xs ++ ys) ≡ placed_from n xs ++ zs) × (patches zs ≡ ys)
placed_behind n [] ys = (placed_from n ys, refl, patches_placed n ys)
placed_behind n (x ∷ xs) ys = let a = placed_behind (n + 1) xs ys in (a.0, ap (λ l. (n, x) ∷ l) a.1, a.2)

-- the names of what is merged
row_infos : {x x' : Placed} {ys ys' : List Placed} → CellRow PlacedMerges x ys ys' x' → infos_of (patches ys') ≡ infos_of (patches ys)
row_infos none = refl
row_infos (next c s) = ap₂ (λ i l. i ∷ l) c.merges.n_stays.info (row_infos s)

merged_infos : {rest new new' rest' : List Placed} → MergeRectangle PlacedMerges rest new new' rest' → infos_of (patches new') ≡ infos_of (patches new)
merged_infos bare = refl
merged_infos (over s g) = merged_infos g ∙ row_infos s

under_among : (policy : Policy) (rest new merged : List Placed) (skipped : ℕ) → MergesUnder policy rest new merged skipped → Distinct (infos_of (patches new)) →
    (i : PatchInfo) → Contains (infos_of (patches merged)) i → Contains (infos_of (patches new)) i
under_among Refuse rest new merged skipped (g, e) d i k = rw (merged_infos g.1) at k
under_among Skip rest new merged skipped (some, (left, g, e)) d i k = (sift_names g d).1 i k

-- what is merged is new in the bundle
pub merged_new : (repo : List Patch) (b : Contents) (policy : Policy) (merged : List Patch) (skipped : ℕ) → Distinct (infos_of b.patches) → IsMergeOf repo b policy merged skipped →
    (i : PatchInfo) → Holds merged i → Holds b.patches i
merged_new repo b policy merged skipped d g i k =
    let n = chosen_new repo g.fits.bundle_split.split (rw (patches_placed 0 b.patches) d) in
    rw (patches_placed 0 b.patches) at ((n.1 i (under_among policy g.rest g.new g.new' skipped g.merge n.0 i (rw g.is_merged at k))).0)

-- where none is skipped all names are merged
under_all : (policy : Policy) (rest new merged : List Placed) → MergesUnder policy rest new merged 0 → infos_of (patches merged) ≡ infos_of (patches new)
under_all Refuse rest new merged (g, e) = merged_infos g.1
under_all Skip rest [] merged (some, (left, g, e)) = absurd (some (sift_none g))
  where
    sift_none : {rest merged left : List Placed} → Sifts [] rest [] merged left → merged ≡ []
    sift_none ends = refl
under_all Skip rest (n ∷ new) merged h = merged_infos ((policies_agree rest n new merged).1 h).0.1

-- where none is skipped the bundle's patches are held, or merged
pub merged_all : (repo : List Patch) (b : Contents) (policy : Policy) (merged : List Patch) → IsMergeOf repo b policy merged 0 → (i : PatchInfo) → Holds b.patches i → Holds repo i ⊎ Holds merged i
merged_all repo b policy merged g i h = elim (name_told (infos_of repo) i) [
  | inl c ↦ inl c
  | inr n ↦ inr (rw (g.is_merged, under_all policy g.rest g.new g.new' g.merge) (rest_has (Holds repo) g.fits.bundle_split.split i (rw (patches_placed 0 b.patches) h) n))
]
