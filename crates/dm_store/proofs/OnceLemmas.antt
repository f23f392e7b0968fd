-- What was accepted brings nothing new to a later repository.
use Rattle.std.proofs.Common.{◌≡◌, ◌≢◌, ◌⊎◌, inl, inr, ℕ, List, [], ◌∷◌, ◌++◌, refl, sym, subst, ap, ap₂, ◌∙◌}
use Rattle.std.specs.List.{Contains}
use Rattle.std.proofs.lemmas.List.Elements.{Contains-append_left, Contains-append_right}
use Rattle.dm_info.specs.PatchInfo.{PatchInfo}
use Rattle.dm_prim.specs.Rectangles.{CellRow, none, next}
use Rattle.dm_named.specs.Laws.{with_kinds}
use Rattle.dm_named.specs.Limits.{standard}
use Rattle.dm_named.specs.declared.limits.Kinds.{Kinds}
use Rattle.dm_named.specs.Patches.{Patch}
use Rattle.dm_bundle.specs.Bundles.{Contents}
use Rattle.dm_bundle.specs.Patches.{infos_of}
use Rattle.dm_repo.specs.Merging.{MergeRectangle, bare, over}
use Rattle.dm_repo.specs.Staircases.{Split, nothing, stays, yields}
use Rattle.dm_repo.specs.Squares.{Placed, patches, PlacedCommutes, PlacedMerges}
use Rattle.dm_repo.specs.Repositories.{Holds}
use Rattle.dm_repo.specs.Sifting.{MergesUnder}
use Rattle.dm_repo.specs.Weighing.{IsHeld, IsMergeOf, IsNothingNew}
use Rattle.dm_repo.specs.declared.policy.Policy.{Policy}
use Rattle.dm_repo.specs.declared.policy.Policy.TheVariants.{Refuse, Skip}
use Rattle.dm_repo.specs.declared.refusal.Refusal.TheVariants.{NoMemory}
use Rattle.dm_repo.proofs.Members.{here, more, one_of, none_of, infos_of-append}
use Rattle.dm_repo.proofs.Placed.{patches_placed}
use Rattle.dm_repo.proofs.SiftLemmas.{policies_agree, some_new}
use Rattle.dm_scratch.specs.declared.verdict.Verdict.{Verdict}
use Rattle.dm_scratch.specs.declared.verdict.Verdict.TheVariants.{Taken, TakenSome, NothingNew, Malformed, Refused}
use Rattle.dm_scratch.specs.Taking.{TakesIn, ReadsWithin, IsAccepted, bundle, malformed, no_memory}
use Rattle.dm_scratch.proofs.OneOutcome.{taking_one}
use Rattle.dm_store.specs.Laws.{TwiceIsOnce}

-- a merge keeps the names of what is merged
row_names : {x x' : Placed} {ys ys' : List Placed} → CellRow PlacedMerges x ys ys' x' → infos_of (patches ys') ≡ infos_of (patches ys)
row_names none = refl
row_names (next c s) = ap₂ (λ i l. i ∷ l) c.merges.n_stays.info (row_names s)

merge_names : {xs ys ys' xs' : List Placed} → MergeRectangle PlacedMerges xs ys ys' xs' → infos_of (patches ys') ≡ infos_of (patches ys)
merge_names bare = refl
merge_names (over s g) = merge_names g ∙ row_names s

-- a patch that passes others keeps its name
pass_name : {x x' : Placed} {ys ys' : List Placed} → CellRow PlacedCommutes x ys ys' x' → x'.1.info ≡ x.1.info
pass_name none = refl
pass_name (next c s) = pass_name s ∙ c.commutes.x_stays.info

-- each name is held, or that of a patch to merge
held_or_new : (repo : List Patch) {xs front new : List Placed} → Split PlacedCommutes (IsHeld repo) xs front new → (i : PatchInfo) → Contains (infos_of (patches xs)) i → Holds repo i ⊎ Contains (infos_of (patches new)) i
held_or_new repo nothing i k = absurd (none_of k)
held_or_new repo (stays {h} {xs} held p) i k =
    elim (one_of h.1.info (infos_of (patches xs)) k) [ inl e ↦ inl (subst (λ (j : PatchInfo). Holds repo j) e held) | inr m ↦ held_or_new repo p i m ]
held_or_new repo (yields {r} {r'} {xs} {rest} o p t) i k =
    elim (one_of r.1.info (infos_of (patches xs)) k) [
      | inl e ↦ inr (subst (λ (j : PatchInfo). Contains (r'.1.info ∷ infos_of (patches rest)) j) (pass_name t ∙ e) (here r'.1.info (infos_of (patches rest))))
      | inr m ↦ elim (held_or_new repo p i m) [ inl h ↦ inl h | inr c ↦ inr (more r'.1.info (infos_of (patches rest)) c) ]
    ]

held_on : (repo others : List Patch) (i : PatchInfo) → Holds repo i → Holds (repo ++ others) i
held_on repo others i h = subst (λ (l : List PatchInfo). Contains l i) (sym (infos_of-append repo others)) (Contains-append_left (infos_of repo) (infos_of others) i h)

held_last : (repo others : List Patch) (i : PatchInfo) → Contains (infos_of others) i → Holds (repo ++ others) i
held_last repo others i h = subst (λ (l : List PatchInfo). Contains l i) (sym (infos_of-append repo others)) (Contains-append_right (infos_of repo) (infos_of others) i h)

nothing_new_on : (repo others : List Patch) (b : Contents) → IsNothingNew repo b → IsNothingNew (repo ++ others) b
nothing_new_on repo others b n = record { knows = λ i k. held_on repo others i (n.knows i k); all_held = λ i k. held_on repo others i (n.all_held i k) }

-- where nothing is skipped, what is merged keeps its names under both policies
whole_names : (policy : Policy) (rest new merged : List Placed) → new ≢ [] → MergesUnder policy rest new merged 0 → infos_of (patches merged) ≡ infos_of (patches new)
whole_names Refuse rest new merged some m = merge_names m.0.1
whole_names Skip rest [] merged some m = absurd (some refl)
whole_names Skip rest (n ∷ new) merged some m = merge_names ((policies_agree rest n new merged).1 m).0.1

merged_held : (repo : List Patch) (b : Contents) (policy : Policy) (merged : List Patch) → IsMergeOf repo b policy merged 0 → IsNothingNew (repo ++ merged) b
merged_held repo b policy merged m =
    let split = m.fits.bundle_split in
    let names : infos_of merged ≡ infos_of (patches m.new) = ap (λ (l : List Patch). infos_of l) m.is_merged ∙ whole_names policy m.rest m.new m.new' (some_new repo b split) m.merge in
    record {
      knows = λ i k. held_on repo merged i (split.repo_split.prerequisites.knows i k);
      all_held = λ i k. elim (held_or_new repo split.split i (subst (λ (l : List Patch). Contains (infos_of l) i) (sym (patches_placed 0 b.patches)) k)) [
        | inl h ↦ held_on repo merged i h
        | inr c ↦ held_last repo merged i (subst (λ (l : List PatchInfo). Contains l i) (sym names) c)
      ];
    }

-- a text whose bundle brings nothing new has that verdict
has_nothing_new : (kinds : Kinds) (repo : List Patch) (text : List ℕ) (b : Contents) (policy : Policy) (w : Verdict) (last : List Patch) → ReadsWithin (with_kinds standard kinds) text b → IsNothingNew repo b → w ≢ Refused NoMemory → TakesIn kinds repo text policy w last → (w ≡ NothingNew) × (last ≡ repo)
has_nothing_new kinds repo text b policy w last r n m t =
    taking_one (with_kinds standard kinds) repo text policy w NothingNew last repo m (λ e. absurd (subst (λ (v : Verdict). IsAccepted v) e tt)) t (bundle b r (n, refl))

pub twice : TwiceIsOnce
twice kinds repo text first (Taken count) after others ok (bundle b r t) policy w last m s =
    let n = subst (λ (l : List Patch). IsNothingNew l b) (sym t.appended) (merged_held repo b first t.merged t.is_merge) in
    has_nothing_new kinds (after ++ others) text b policy w last r (nothing_new_on after others b n) m s
twice kinds repo text first (Taken count) after others ok (malformed f at e same) policy w last m s = absurd (subst (λ (v : Verdict). IsAccepted v) e tt)
twice kinds repo text first (Taken count) after others ok (no_memory e same) policy w last m s = absurd (subst (λ (v : Verdict). IsAccepted v) e tt)
twice kinds repo text first NothingNew after others ok (bundle b r t) policy w last m s =
    let n = subst (λ (l : List Patch). IsNothingNew l b) (sym t.1) t.0 in
    has_nothing_new kinds (after ++ others) text b policy w last r (nothing_new_on after others b n) m s
twice kinds repo text first NothingNew after others ok (malformed f at e same) policy w last m s = absurd (subst (λ (v : Verdict). IsAccepted v) e tt)
twice kinds repo text first NothingNew after others ok (no_memory e same) policy w last m s = absurd (subst (λ (v : Verdict). IsAccepted v) e tt)
twice kinds repo text first (TakenSome count skipped) after others ok t policy w last m s = absurd ok
twice kinds repo text first (Malformed fault) after others ok t policy w last m s = absurd ok
twice kinds repo text first (Refused why) after others ok t policy w last m s = absurd ok
