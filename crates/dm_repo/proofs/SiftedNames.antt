-- What is merged where others are skipped names only what stands before it, as new patches do.
use Rattle.std.proofs.Common.{◌≡◌, List, [], ◌∷◌, ◌++◌, ◌⊎◌, inl, inr, refl, ap, ap₂, ◌∙◌}
use Rattle.std.specs.List.{Contains}
use Rattle.std.proofs.lemmas.List.Elements.{Contains-append_left, Contains-append_right, Contains-append_cases}
use Rattle.dm_info.specs.PatchInfo.{PatchInfo}
use Rattle.dm_prim.specs.Rectangles.{none, next, empty, row}
use Rattle.dm_named.specs.Commuting.{Stays}
use Rattle.dm_bundle.specs.Patches.{infos_of, Distinct}
use Rattle.dm_repo.specs.Staircases.{Passes}
use Rattle.dm_repo.specs.Merging.{bare, over, MergesPast}
use Rattle.dm_repo.specs.Sifting.{Sifts, ends, merges, skips}
use Rattle.dm_repo.specs.Squares.{Placed, patches, PlacedCommutes, PlacedMerges}
use Rattle.dm_repo.specs.Repositories.{NamesEarlier}
use Rattle.dm_repo.proofs.Members.{here, more, one_of, none_of}

-- a patch that passes others keeps its name and names none of them, and they keep their names
record Past (xs : List Placed) (h h' : Placed) (xs' : List Placed) : Type 0 where
  same : Stays h.1 h'.1
  free : (d : PatchInfo) → Contains h.1.deps d → Contains (infos_of (patches xs)) d → ⊥
  kept : infos_of (patches xs') ≡ infos_of (patches xs)

past : {xs xs' : List Placed} {h h' : Placed} → Passes PlacedCommutes xs h h' xs' → Past xs h h' xs'
past empty = record { same = record { info = refl; deps = refl }; free = λ d k c. none_of c; kept = refl }
past (row {x} {xs} g (next c none)) =
    let p = past g in
    record {
      same = record { info = c.commutes.y_stays.info ∙ p.same.info; deps = c.commutes.y_stays.deps ∙ p.same.deps };
      free = λ d k h. elim (one_of x.1.info (infos_of (patches xs)) h) [
        | inl e ↦ c.commutes.x_named (rw (← e, ← p.same.deps) at k)
        | inr m ↦ p.free d k m
      ];
      kept = ap₂ (λ i l. i ∷ l) c.commutes.x_stays.info p.kept;
    }

merged_same : {rest rest' : List Placed} {n n' : Placed} → MergesPast PlacedMerges rest n n' rest' → Stays n.1 n'.1
merged_same bare = record { info = refl; deps = refl }
merged_same (over (next c none) g) = let p = merged_same g in record { info = p.info ∙ c.merges.n_stays.info; deps = p.deps ∙ c.merges.n_stays.deps }

infos_push : (xs : List Placed) (x : Placed) → infos_of (patches (xs ++ x ∷ [])) ≡ infos_of (patches xs) ++ x.1.info ∷ []
infos_push [] x = refl
infos_push (y ∷ ys) x = ap (λ l. y.1.info ∷ l) (infos_push ys x)

-- all of seen is held, or was skipped
abbrev Known : List PatchInfo → List PatchInfo → List Placed → Type 0
Known seen held skipped = (i : PatchInfo) → Contains seen i → Contains held i ⊎ Contains (infos_of (patches skipped)) i

known_on : (seen held : List PatchInfo) (skipped : List Placed) (i : PatchInfo) → Known seen held skipped → Contains held i ⊎ Contains (infos_of (patches skipped)) i → Known (seen ++ i ∷ []) held skipped
known_on seen held skipped i f h j k = elim (Contains-append_cases seen (i ∷ []) j k) [ inl c ↦ f j c | inr c ↦ elim (one_of i [] c) [ inl e ↦ rw (← e) h | inr d ↦ absurd (none_of d) ] ]

-- what is merged doesn't name what was skipped
pub sift_earlier : (seen held : List PatchInfo) {skipped rest new merged left : List Placed} → Sifts skipped rest new merged left →
    Known seen held skipped → NamesEarlier seen (patches new) → NamesEarlier held (patches merged)
sift_earlier seen held ends k n = tt
sift_earlier seen held (merges {n = x} {n' = x'} {skipped} {skipped'} o g) k n =
    let w = past o.passes_skipped in let v = merged_same o.merges_past in
    let e : x'.1.deps ≡ x.1.deps = v.deps ∙ w.same.deps in
    let i : x'.1.info ≡ x.1.info = v.info ∙ w.same.info in (
      λ d h. let q = rw e at h in elim (k d (n.0 d q)) [ inl c ↦ c | inr c ↦ absurd (w.free d q c) ],
      sift_earlier (seen ++ x.1.info ∷ []) (held ++ x'.1.info ∷ []) g
          (known_on seen (held ++ x'.1.info ∷ []) skipped' x.1.info
          (λ j h. elim (k j h) [ inl c ↦ inl (Contains-append_left held (x'.1.info ∷ []) j c) | inr c ↦ inr (rw w.kept c) ])
          (inl (rw i (Contains-append_right held (x.1.info ∷ []) x.1.info (here x.1.info [])))))
          n.1,
    )
sift_earlier seen held (skips {n = x} {skipped} stuck g) k n =
    sift_earlier (seen ++ x.1.info ∷ []) held g
    (known_on seen held (skipped ++ x ∷ []) x.1.info
    (λ j h. elim (k j h) [ inl c ↦ inl c | inr c ↦ inr (rw (infos_push skipped x) (Contains-append_left (infos_of (patches skipped)) (x.1.info ∷ []) j c)) ])
    (inr (rw (infos_push skipped x) (Contains-append_right (infos_of (patches skipped)) (x.1.info ∷ []) x.1.info (here x.1.info [])))))
    n.1

-- what is merged has distinct names, which new patches have
abbrev pub Among : List Placed → List Placed → Type 0
Among xs ys = (i : PatchInfo) → Contains (infos_of (patches xs)) i → Contains (infos_of (patches ys)) i

pub sift_names : {skipped rest new merged left : List Placed} → Sifts skipped rest new merged left → Distinct (infos_of (patches new)) → Distinct (infos_of (patches merged)) × Among merged new
sift_names ends d = (tt, λ i h. h)
sift_names (merges {n = x} {n' = x'} {new} {merged} o g) d = go (sift_names g d.1) ((merged_same o.merges_past).info ∙ (past o.passes_skipped).same.info)
  where
    go : Distinct (infos_of (patches merged)) × Among merged new → x'.1.info ≡ x.1.info → Distinct (infos_of (patches (x' ∷ merged))) × Among (x' ∷ merged) (x ∷ new)
    go a e = (
      (λ h. d.0 (a.1 x.1.info (rw e at h)), a.0),
      λ i k. elim (one_of x'.1.info (infos_of (patches merged)) k) [
        | inl f ↦ rw (← f, e) (here x.1.info (infos_of (patches new)))
        | inr h ↦ more x.1.info (infos_of (patches new)) (a.1 i h)
      ],
    )
sift_names (skips {n = x} {new} stuck g) d = let a = sift_names g d.1 in (a.0, λ i h. more x.1.info (infos_of (patches new)) (a.1 i h))
