-- The text of what goes gives it back.
use Rattle.std.proofs.Common.{◌≡◌, ◌≢◌, ◌∙◌, false, eqb, ◌↔◌, ◌⊎◌, ℕ, List, [], ◌∷◌, ◌++◌, length, inl, inr, refl}
use Rattle.std.specs.List.{Contains}
use Rattle.std.proofs.lemmas.Bool.{true≢false}
use Rattle.std.proofs.lemmas.List.Elements.{Contains-append_left, Contains-append_right, Contains-append_cases}
use Rattle.dm_info.specs.PatchInfo.{PatchInfo}
use Rattle.dm_named.specs.declared.limits.Kinds.{Kinds}
use Rattle.dm_named.specs.Patches.{Patch}
use Rattle.dm_bundle.specs.Bundles.{Contents}
use Rattle.dm_bundle.specs.Patches.{infos_of, AreAllOf, SameMembers}
use Rattle.dm_repo.specs.declared.policy.Policy.TheVariants.{Refuse}
use Rattle.dm_repo.specs.Repositories.{Holds}
use Rattle.dm_repo.specs.Weighing.{IsMergeOf}
use Rattle.dm_repo.proofs.Members.{here, more, one_of, infos_of-append}
use Rattle.dm_scratch.specs.declared.verdict.Verdict.TheVariants.{Taken}
use Rattle.dm_converge.proofs.Merged.{merged_all, merged_new}
use Rattle.dm_send.proofs.KindLemmas.{leaving_keeps_kinds}
use Rattle.dm_send.specs.Obliterating.{Obliterates}
use Rattle.dm_send.specs.Sending.{Parts, no_names, inside, outside}
use Rattle.dm_store.specs.LettingGo.{GivesBack}
use Rattle.dm_begin.specs.Bases.{MayHaveBase}
use Rattle.dm_commands.specs.Obliterating.{ObliteratesBehind, TakesOut}

module _ {In : PatchInfo → Type 0} {i : PatchInfo} where
  there : {all those others : List PatchInfo} → Parts In all those others → Contains all i → Contains (those ++ others) i
  there no_names c = c
  there (inside {i = j} {all} {those} {others} h p) c = elim (one_of j all c) [ inl e ↦ rw (← e) (here j (those ++ others)) | inr d ↦ more j (those ++ others) (there p d) ]
  there (outside {i = j} {all} {those} {others} h p) c = elim (one_of j all c) [
    | inl e ↦ Contains-append_right those (j ∷ others) i (rw (← e) (here j others))
    | inr d ↦ elim (Contains-append_cases those others i (there p d)) [
      | inl k ↦ Contains-append_left those (j ∷ others) i k
      | inr k ↦ Contains-append_right those (j ∷ others) i (more j others k)
    ]
  ]

  back : {all those others : List PatchInfo} → Parts In all those others → Contains (those ++ others) i → Contains all i
  back no_names c = c
  back (inside {i = j} {all} {those} {others} h p) c = elim (one_of j (those ++ others) c) [ inl e ↦ rw (← e) (here j all) | inr d ↦ more j all (back p d) ]
  back (outside {i = j} {all} {those} {others} h p) c = elim (Contains-append_cases those (j ∷ others) i c) [
    | inl k ↦ more j all (back p (Contains-append_left those others i k))
    | inr k ↦ elim (one_of j others k) [ inl e ↦ rw (← e) (here j all) | inr m ↦ more j all (back p (Contains-append_right those others i m)) ]
  ]

-- a list that isn't empty has an element
pub some_new : (xs ys : List Patch) → xs ≡ ys → eqb (length xs) 0 ≡ false → ys ≢ []
some_new [] ys same e none = absurd (true≢false e)
some_new (x ∷ xs) ys same e none = let never : x ∷ xs ≡ [] = same ∙ none in absurd (cc)

-- what stays takes the bundle of what goes, and has then what goes behind its own
pub takes_gone : (repo : List Patch) (base : ℕ) (chosen : List PatchInfo) (stays : List Patch) (cut : Contents) (bound : List (PatchInfo × PatchInfo)) → MayHaveBase repo base → (o : ObliteratesBehind repo base chosen stays cut bound) → cut.patches ≢ [] →
    IsMergeOf stays cut Refuse o.obliterates.go 0
takes_gone repo base chosen stays cut bound may o some = o.is_taken may Refuse some

-- the names of a repository are those of what stays and of what is brought
abbrev Has : List Patch → List Patch → Contents → Type 0
Has repo stays b = (i : PatchInfo) → Holds repo i ↔ (Holds stays i ⊎ Holds b.patches i)

module _ (kinds : Kinds) (repo stays : List Patch) (text : List ℕ) (t : TakesOut kinds repo stays text) where
  has_kept : Has repo stays t.kept
  has_kept i = (
    λ h. elim (Contains-append_cases (infos_of stays) (infos_of o.go) i (there o.names h)) [
      | inl c ↦ inl c
      | inr c ↦ inr (rw t.same (merged_new stays t.gone Refuse o.go 0 (rw t.same at t.reads.stands.sections.patches.distinct) whole i c))
    ],
    λ h. back o.names (elim h [
      | inl c ↦ Contains-append_left (infos_of stays) (infos_of o.go) i c
      | inr c ↦ elim (merged_all stays t.gone Refuse o.go whole i (rw t.same at c)) [
        | inl d ↦ Contains-append_left (infos_of stays) (infos_of o.go) i d
        | inr d ↦ Contains-append_right (infos_of stays) (infos_of o.go) i d
      ]
    ]),
  )
    where
      o : Obliterates repo t.base t.chosen stays t.gone t.bound
      o = t.obliterates

      whole : IsMergeOf stays t.gone Refuse o.go 0
      whole = o.is_taken Refuse t.some

  merged_has : (merged : List Patch) → IsMergeOf stays t.kept Refuse merged 0 → SameMembers (infos_of repo) (infos_of (stays ++ merged))
  merged_has merged m = λ i. (
    λ h. rw (infos_of-append stays merged) (elim ((has_kept i).0 h) [
      | inl c ↦ Contains-append_left (infos_of stays) (infos_of merged) i c
      | inr c ↦ elim (merged_all stays t.kept Refuse merged m i c) [
        | inl d ↦ Contains-append_left (infos_of stays) (infos_of merged) i d
        | inr d ↦ Contains-append_right (infos_of stays) (infos_of merged) i d
      ]
    ]),
    λ h. (has_kept i).1 (elim (Contains-append_cases (infos_of stays) (infos_of merged) i (rw (infos_of-append stays merged) at h)) [
      | inl c ↦ inl c
      | inr c ↦ inr (merged_new stays t.kept Refuse merged 0 t.reads.stands.sections.patches.distinct m i c)
    ]),
  )

  pub gives_back : GivesBack kinds repo stays text
  gives_back =
      let o = t.obliterates in
      record {
        gone = t.kept;
        stands = t.reads.stands;
        verdict = Taken (length o.go);
        accepted = tt;
        after = stays ++ o.go;
        takes = record { merged = o.go; is_merge = t.is_taken; counted = refl; appended = refl };
        names = merged_has o.go t.is_taken;
        same_tree = o.same_tree;
      }

  -- what stays has the kinds of the repository
  pub stays_of_kinds : AreAllOf kinds repo → AreAllOf kinds stays
  stays_of_kinds k = let o = t.obliterates in (leaving_keeps_kinds kinds t.chosen repo stays o.go t.bound k o.leaves).0
