-- A merged bundle leaves a repository.
use Rattle.std.proofs.Common.{◌≡◌, ℕ, suc, List, [], ◌∷◌, ◌++◌, take, slice_get, Some, ◌⊎◌, inl, inr, refl, ap, ◌∙◌, append_assoc, append-nil}
use Rattle.std.specs.List.{Contains}
use Rattle.std.proofs.lemmas.List.Elements.{Contains-append_left, Contains-append_right, Contains-append_cases}
use Rattle.dm_info.specs.PatchInfo.{PatchInfo}
use Rattle.dm_prim.specs.Rectangles.{CellRow, none, next}
use Rattle.dm_repo.specs.Merging.{MergeRectangle, bare, over}
use Rattle.dm_named.specs.Patches.{Patch}
use Rattle.dm_named.specs.Commuting.{Stays}
use Rattle.dm_bundle.specs.Bundles.{Contents}
use Rattle.dm_repo.specs.Staircases.{Split, nothing, stays, yields}
use Rattle.dm_repo.specs.Squares.{Placed, patches, PlacedCommutes, PlacedMerges}
use Rattle.dm_bundle.specs.Patches.{infos_of, Distinct}
use Rattle.dm_repo.specs.Repositories.{Holds, NamesEarlier}
use Rattle.dm_repo.specs.CommonSets.{Closed, given, needed, Common, KnowsContext}
use Rattle.dm_repo.specs.Weighing.{IsHeld}
use Rattle.dm_repo.specs.declared.policy.Policy.{Policy}
use Rattle.dm_repo.specs.declared.policy.Policy.TheVariants.{Refuse, Skip}
use Rattle.dm_repo.specs.Sifting.{MergesUnder}
use Rattle.dm_repo.specs.Laws.{MergeIsRepo}
use Rattle.dm_repo.proofs.Members.{here, more, one_of, none_of, dep_held, earlier_on, distinct_on, infos_of-append}
use Rattle.dm_repo.proofs.Placed.{patches_placed}
use Rattle.dm_repo.proofs.Staircases.{runs_on}
use Rattle.dm_repo.proofs.SiftedNames.{Among, sift_earlier, sift_names}

strip_stays : {x x' : Placed} {ys ys' : List Placed} → CellRow PlacedCommutes x ys ys' x' → Stays x.1 x'.1
strip_stays none = record { info = refl; deps = refl }
strip_stays (next c s) = let t = strip_stays s in record { info = t.info ∙ c.commutes.x_stays.info; deps = t.deps ∙ c.commutes.x_stays.deps }

module _ (repo : List Patch) (b : Contents) where
  -- what each of xs names is found
  abbrev pub Finds : List PatchInfo → List Patch → Type 0
  Finds seen xs = (n : ℕ) (x : Patch) (d : PatchInfo) → slice_get xs n ≡ Some x → (Holds repo x.info → ⊥) → Contains x.deps d → Common repo b d ⊎ Contains (seen ++ infos_of (take n xs)) d

  later : (seen : List PatchInfo) (y : Patch) (xs : List Patch) → Finds seen (y ∷ xs) → Finds (seen ++ y.info ∷ []) xs
  later seen y xs f n x d e o k = elim (f (suc n) x d e o k) [ inl c ↦ inl c | inr h ↦ inr (rw (append_assoc seen (y.info ∷ []) (infos_of (take n xs))) h) ]

  pub widen : (seen held : List PatchInfo) (i : PatchInfo) → ((j : PatchInfo) → Contains seen j → Contains held j) → Contains held i → (j : PatchInfo) → Contains (seen ++ i ∷ []) j → Contains held j
  widen seen held i f h j k = elim (Contains-append_cases seen (i ∷ []) j k) [ inl c ↦ f j c | inr c ↦ elim (one_of i [] c) [ inl e ↦ rw (← e) h | inr d ↦ absurd (none_of d) ] ]

  -- what is chosen names only what is held or chosen before it
  pub chosen_earlier : (seen held : List PatchInfo) {xs front chosen : List Placed} → Split PlacedCommutes (IsHeld repo) xs front chosen → Finds seen (patches xs) →
      ((i : PatchInfo) → Common repo b i → Contains held i) → ((i : PatchInfo) → Holds repo i → Contains held i) → ((i : PatchInfo) → Contains seen i → Contains held i) →
      NamesEarlier held (patches chosen)
  chosen_earlier seen held nothing f c r s = tt
  chosen_earlier seen held (stays {h} {xs} i p) f c r s =
      chosen_earlier (seen ++ h.1.info ∷ []) held p (later seen h.1 (patches xs) f) c r (widen seen held h.1.info s (r h.1.info i))
  chosen_earlier seen held (yields {r = x} {r' = x'} {xs} o p t) f c r s =
      let k = strip_stays t in
      let grow = λ (j : PatchInfo) (h : Contains held j). Contains-append_left held (x'.1.info ∷ []) j h in (
        λ d h. elim (f 0 x.1 d refl o (rw k.deps at h)) [ inl e ↦ c d e | inr e ↦ s d (rw (append-nil seen) at e) ],
        chosen_earlier (seen ++ x.1.info ∷ []) (held ++ x'.1.info ∷ []) p (later seen x.1 (patches xs) f)
            (λ i e. grow i (c i e)) (λ i e. grow i (r i e))
            (widen seen (held ++ x'.1.info ∷ []) x.1.info (λ i e. grow i (s i e))
            (rw k.info (Contains-append_right held (x.1.info ∷ []) x.1.info (here x.1.info [])))),
      )

-- what is chosen is distinct and not held
pub chosen_new : (repo : List Patch) {xs front chosen : List Placed} → Split PlacedCommutes (IsHeld repo) xs front chosen → Distinct (infos_of (patches xs)) →
    Distinct (infos_of (patches chosen)) × ((i : PatchInfo) → Contains (infos_of (patches chosen)) i → Contains (infos_of (patches xs)) i × (Holds repo i → ⊥))
chosen_new repo nothing d = (tt, λ i h. absurd (none_of h))
chosen_new repo (stays {h} {xs} i p) d = let a = chosen_new repo p d.1 in (a.0, λ j k. let q = a.1 j k in (more h.1.info (infos_of (patches xs)) q.0, q.1))
chosen_new repo (yields {r = x} {r' = x'} {xs} {rest} o p t) d = go (chosen_new repo p d.1) (strip_stays t).info
  where
    go : Distinct (infos_of (patches rest)) × ((i : PatchInfo) → Contains (infos_of (patches rest)) i → Contains (infos_of (patches xs)) i × (Holds repo i → ⊥)) → x'.1.info ≡ x.1.info →
        Distinct (x'.1.info ∷ infos_of (patches rest)) × ((i : PatchInfo) → Contains (x'.1.info ∷ infos_of (patches rest)) i → Contains (x.1.info ∷ infos_of (patches xs)) i × (Holds repo i → ⊥))
    go a e = (
      (λ h. d.0 ((a.1 x.1.info (rw e at h)).0), a.0),
      λ i k. elim (one_of x'.1.info (infos_of (patches rest)) k) [
        | inl f ↦ rw (← f, e) (here x.1.info (infos_of (patches xs)), o)
        | inr h ↦ let q = a.1 i h in (more x.1.info (infos_of (patches xs)) q.0, q.1)
      ],
    )

-- one by one under the same names
data Sames : List Patch → List Patch → Type 0 where
  both_none : Sames [] []
  both : {x y : Patch} {xs ys : List Patch} → Stays x y → Sames xs ys → Sames (x ∷ xs) (y ∷ ys)

sames_self : (xs : List Patch) → Sames xs xs
sames_self [] = both_none
sames_self (x ∷ xs) = both (record { info = refl; deps = refl }) (sames_self xs)

sames_trans : {xs ys zs : List Patch} → Sames xs ys → Sames ys zs → Sames xs zs
sames_trans both_none both_none = both_none
sames_trans (both s r) (both t q) = both (record { info = t.info ∙ s.info; deps = t.deps ∙ s.deps }) (sames_trans r q)

strip_sames : {x x' : Placed} {ys ys' : List Placed} → CellRow PlacedMerges x ys ys' x' → Sames (patches ys) (patches ys')
strip_sames none = both_none
strip_sames (next c s) = both c.merges.n_stays (strip_sames s)

rect_sames : {xs ys ys' xs' : List Placed} → MergeRectangle PlacedMerges xs ys ys' xs' → Sames (patches ys) (patches ys')
rect_sames (bare {new}) = sames_self (patches new)
rect_sames (over s g) = sames_trans (strip_sames s) (rect_sames g)

sames_names : {xs ys : List Patch} → Sames xs ys → infos_of ys ≡ infos_of xs
sames_names both_none = refl
sames_names (both {x} {xs} {ys} s r) = ap (λ i. i ∷ infos_of ys) s.info ∙ ap (λ l. x.info ∷ l) (sames_names r)

sames_earlier : (held : List PatchInfo) {xs ys : List Patch} → Sames xs ys → NamesEarlier held xs → NamesEarlier held ys
sames_earlier held both_none n = tt
sames_earlier held (both {y} s r) n = (λ d h. n.0 d (rw s.deps at h), sames_earlier (held ++ y.info ∷ []) r (rw (← s.info) at n.1))

-- what is common is held
pub common_held : (repo : List Patch) (b : Contents) → NamesEarlier [] repo → KnowsContext repo b → (i : PatchInfo) → Common repo b i → Holds repo i
common_held repo b n k i (inl c) = closed i c
  where
    closed : (i : PatchInfo) → Closed repo b.context i → Holds repo i
    closed i (given h) = k i h
    closed i (needed m c d) = dep_held [] repo n m d
common_held repo b n k i (inr h) = h.1

-- what comes of patches under a policy names what these did, and is distinct
under_earlier : (policy : Policy) (held : List PatchInfo) (rest new merged : List Placed) (count : ℕ) → MergesUnder policy rest new merged count → NamesEarlier held (patches new) → NamesEarlier held (patches merged)
under_earlier Refuse held rest new merged count (m, e) n = sames_earlier held (rect_sames m.1) n
under_earlier Skip held rest new merged count (some, (left, g, e)) n = sift_earlier held held g (λ i h. inl h) n

under_names : (policy : Policy) (rest new merged : List Placed) (count : ℕ) → MergesUnder policy rest new merged count → Distinct (infos_of (patches new)) → Distinct (infos_of (patches merged)) × Among merged new
under_names Refuse rest new merged count (m, e) d = let s = sames_names (rect_sames m.1) in (rw s d, λ i h. rw s at h)
under_names Skip rest new merged count (some, (left, g, e)) d = sift_names g d

pub merge_is_repo : MergeIsRepo
merge_is_repo repo b policy merged skipped ok distinct m =
    let f = m.fits in
    let c = f.bundle_split in
    let k = c.repo_split.prerequisites in
    let e = patches_placed 0 b.patches in
    let a = chosen_new repo c.split (rw (ap infos_of e) distinct) in
    let held = common_held repo b ok.earlier k.knows in
    let n = chosen_earlier repo b [] (infos_of repo) c.split (rw e k.has_dependencies) held (λ i x. x) (λ i x. absurd (none_of x)) in
    let s = under_names policy m.rest m.new m.new' skipped m.merge a.0 in
    record {
      distinct = rw (infos_of-append repo merged, m.is_merged) (distinct_on (infos_of repo) (infos_of (patches m.new')) ok.distinct s.0 (λ i x y. (a.1 i (s.1 i y)).1 x));
      earlier = rw m.is_merged (earlier_on [] repo (patches m.new') ok.earlier (under_earlier policy (infos_of repo) m.rest m.new m.new' skipped m.merge n));
      tree = m.appends.after;
      folds = record { start = m.appends.folds.start; is_root = m.appends.folds.is_root; runs = runs_on m.appends.folds.runs m.appends.leads };
    }
