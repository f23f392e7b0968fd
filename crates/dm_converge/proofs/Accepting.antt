-- A mirror that accepts all of its texts has the names of all their patches.
use Rattle.std.proofs.Common.{◌⊎◌, inl, inr, ℕ, List, [], ◌∷◌, ◌++◌, sym, subst}
use Rattle.std.specs.List.{Contains, AllByRecursion}
use Rattle.std.proofs.lemmas.List.Elements.{Contains-append_left, Contains-append_right, Contains-append_cases}
use Rattle.dm_info.specs.PatchInfo.{PatchInfo}
use Rattle.dm_named.specs.Patches.{Patch}
use Rattle.dm_named.specs.declared.limits.Kinds.TheVariants as these
use Rattle.dm_bundle.specs.Patches.{infos_of}
use Rattle.dm_bundle.specs.Bundles.{Contents, BundleText}
use Rattle.dm_bundle.proofs.OneBundle.{one_bundle}
use Rattle.dm_repo.specs.declared.policy.Policy.{Policy}
use Rattle.dm_repo.specs.Repositories.{Holds}
use Rattle.dm_repo.specs.Weighing.{IsMergeOf}
use Rattle.dm_repo.proofs.Members.{here, more, one_of, none_of, infos_of-append}
use Rattle.dm_scratch.specs.declared.verdict.Verdict.{Verdict}
use Rattle.dm_scratch.specs.declared.verdict.Verdict.TheVariants.{Taken, TakenSome, NothingNew, Malformed, Refused}
use Rattle.dm_scratch.specs.Taking.{TakesBundle, Takes, TakesEach, IsAccepted, bundle, malformed, no_memory}
use Rattle.dm_converge.specs.Pools.{HasBundleIn, as_it_was}
use Rattle.dm_converge.specs.Laws as laws
use Rattle.dm_converge.proofs.Merged.{merged_new, merged_all}
use Rattle.dm_converge.proofs.Networks.{comes_each, pools_converge}

-- a repository with all names of another and of a bundle
record HasJust (repo : List Patch) (b : Contents) (after : List Patch) : Type 0 where
  only : (i : PatchInfo) → Holds after i → Holds repo i ⊎ Holds b.patches i
  kept : (i : PatchInfo) → Holds repo i → Holds after i
  all : (i : PatchInfo) → Holds b.patches i → Holds after i

merged_just : (text : List ℕ) (repo : List Patch) (b : Contents) (policy : Policy) (merged : List Patch) → BundleText text b → IsMergeOf repo b policy merged 0 → HasJust repo b (repo ++ merged)
merged_just text repo b policy merged stands g = record {
  only = λ i h. elim (Contains-append_cases (infos_of repo) (infos_of merged) i (rw (infos_of-append repo merged) at h)) [
    | inl c ↦ inl c
    | inr c ↦ inr (merged_new repo b policy merged 0 stands.sections.patches.distinct g i c)
  ];
  kept = left;
  all = λ i h. elim (merged_all repo b policy merged g i h) [
    | inl c ↦ left i c
    | inr c ↦ rw (infos_of-append repo merged) (Contains-append_right (infos_of repo) (infos_of merged) i c)
  ];
}
  where
    left : (i : PatchInfo) → Holds repo i → Holds (repo ++ merged) i
    left i c = rw (infos_of-append repo merged) (Contains-append_left (infos_of repo) (infos_of merged) i c)

bundle_just : (text : List ℕ) (repo : List Patch) (b : Contents) (policy : Policy) (v : Verdict) (after : List Patch) → BundleText text b → IsAccepted v → TakesBundle repo b policy v after → HasJust repo b after
bundle_just text repo b policy (Taken count) after stands a t = rw t.appended (merged_just text repo b policy t.merged stands t.is_merge)
bundle_just text repo b policy (TakenSome count skipped) after stands a t = absurd a
bundle_just text repo b policy NothingNew after stands a t = rw t.1 (record { only = λ i h. inl h; kept = λ i h. h; all = λ i h. t.0.all_held i h })
bundle_just text repo b policy (Malformed fault) after stands a t = absurd a
bundle_just text repo b policy (Refused why) after stands a t = absurd a

-- the text that is accepted stands for such a bundle
accepted_just : (repo : List Patch) (text : List ℕ) (policy : Policy) (v : Verdict) (after : List Patch) → IsAccepted v → Takes repo text policy v after → (b : Contents) × BundleText text b × HasJust repo b after
accepted_just repo text policy v after a (bundle b r t) = (b, r.stands, bundle_just text repo b policy v after r.stands a t)
accepted_just repo text policy v after a (malformed fault at e same) = absurd (rw e at a)
accepted_just repo text policy v after a (no_memory e same) = absurd (rw e at a)

-- a name of one of the texts' patches
abbrev IsOf : List (List ℕ) → PatchInfo → Type 0
IsOf texts i = (b : Contents) × HasBundleIn these.Six texts b × Holds b.patches i

in_more : (x : List ℕ) (xs : List (List ℕ)) (i : PatchInfo) → IsOf xs i → IsOf (x ∷ xs) i
in_more x xs i (b, h, k) = (b, (h.0, more x xs h.1, h.2), k)

each_only : (repo : List Patch) (texts : List (List ℕ)) (policy : Policy) (vs : List Verdict) (after : List Patch) → AllByRecursion IsAccepted vs → TakesEach repo texts policy vs after →
    (i : PatchInfo) → Holds after i → Holds repo i ⊎ IsOf texts i
each_only repo [] policy [] after a t i h = inl (rw t at h)
each_only repo [] policy (v ∷ vs) after a t i h = absurd t
each_only repo (x ∷ xs) policy [] after a t i h = absurd t
each_only repo (x ∷ xs) policy (v ∷ vs) after a (next, t, r) i h =
    let j = accepted_just repo x policy v next a.0 t in
    elim (each_only next xs policy vs after a.1 r i h) [
      | inl c ↦ elim (j.2.only i c) [ inl d ↦ inl d | inr d ↦ inr (j.0, (x, here x xs, j.1), d) ]
      | inr c ↦ inr (in_more x xs i c)
    ]

each_kept : (repo : List Patch) (texts : List (List ℕ)) (policy : Policy) (vs : List Verdict) (after : List Patch) → AllByRecursion IsAccepted vs → TakesEach repo texts policy vs after →
    (i : PatchInfo) → Holds repo i → Holds after i
each_kept repo [] policy [] after a t i h = rw t h
each_kept repo [] policy (v ∷ vs) after a t i h = absurd t
each_kept repo (x ∷ xs) policy [] after a t i h = absurd t
each_kept repo (x ∷ xs) policy (v ∷ vs) after a (next, t, r) i h = each_kept next xs policy vs after a.1 r i ((accepted_just repo x policy v next a.0 t).2.kept i h)

each_all : (repo : List Patch) (texts : List (List ℕ)) (policy : Policy) (vs : List Verdict) (after : List Patch) → AllByRecursion IsAccepted vs → TakesEach repo texts policy vs after →
    (i : PatchInfo) → IsOf texts i → Holds after i
each_all repo [] policy [] after a t i (b, h, k) = absurd (none_of h.1)
each_all repo [] policy (v ∷ vs) after a t i w = absurd t
each_all repo (x ∷ xs) policy [] after a t i w = absurd t
each_all repo (x ∷ xs) policy (v ∷ vs) after a (next, t, r) i (b, h, k) =
    let j = accepted_just repo x policy v next a.0 t in
    elim (one_of x xs h.1) [
      | inl e ↦ each_kept next xs policy vs after a.1 r i
          (j.2.all i (subst (λ z. Holds z.patches i) (one_bundle these.Six x b j.0 (subst (λ z. BundleText z b) (sym e) h.2) j.1) k))
      | inr c ↦ each_all next xs policy vs after a.1 r i (b, (h.0, c, h.2), k)
    ]

-- of the same texts come the same names
pub same_way : (base : List Patch) (texts others : List (List ℕ)) (policy other_policy : Policy) (vs ws : List Verdict) (one other : List Patch) → ((text : List ℕ) → Contains texts text → Contains others text) →
    TakesEach base texts policy vs one → TakesEach base others other_policy ws other → AllByRecursion IsAccepted vs → AllByRecursion IsAccepted ws → (i : PatchInfo) → Holds one i → Holds other i
same_way base texts others policy other_policy vs ws one other f h k a b i c = elim (each_only base texts policy vs one a h i c) [
  | inl d ↦ each_kept base others other_policy ws other b k i d
  | inr d ↦ each_all base others other_policy ws other b k i (d.0, (d.1.0, f d.1.0 d.1.1, d.1.2), d.2)
]

pub accepted_texts_converge : laws.AcceptedTextsConverge
accepted_texts_converge base texts others policy other_policy vs ws one other ok one_patch same h k a b =
    pools_converge these.Six texts base ok one_patch one other
    (comes_each texts base base texts policy vs one (λ y c. c) as_it_was h)
    (comes_each texts base base others other_policy ws other (λ y c. (same y).1 c) as_it_was k)
    (λ i. (
      same_way base texts others policy other_policy vs ws one other (λ y c. (same y).0 c) h k a b i,
      same_way base others texts other_policy policy ws vs other one (λ y c. (same y).1 c) k h b a i,
    ))
