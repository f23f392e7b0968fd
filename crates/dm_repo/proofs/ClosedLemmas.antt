-- The closed set, from the last patch to the first.
use Rattle.std.proofs.Common.{◌≡◌, List, [], ◌∷◌, ◌++◌, ◌↔◌, ◌⊎◌, inl, inr, refl, append_assoc, append-nil}
use Rattle.std.specs.List.{Contains}
use Rattle.std.proofs.lemmas.List.Elements.{Contains-append_right, Contains-append_cases}
use Rattle.dm_info.specs.PatchInfo.{PatchInfo}
use Rattle.dm_named.specs.Patches.{Patch}
use Rattle.dm_bundle.specs.Patches.{infos_of, Distinct}
use Rattle.dm_repo.specs.Repositories.{NamesEarlier}
use Rattle.dm_repo.specs.CommonSets.{Closed, given, needed}
use Rattle.dm_repo.proofs.Members.{here, more, one_of, none_of, dep_held, infos_of-append}

earlier_front : (held : List PatchInfo) (xs ys : List Patch) → NamesEarlier held (xs ++ ys) → NamesEarlier held xs
earlier_front held [] ys n = tt
earlier_front held (x ∷ xs) ys n = (n.0, earlier_front (held ++ x.info ∷ []) xs ys n.1)

earlier_at : (held : List PatchInfo) (xs : List Patch) (y : Patch) (ys : List Patch) {d : PatchInfo} → NamesEarlier held (xs ++ y ∷ ys) → Contains y.deps d → Contains (held ++ infos_of xs) d
earlier_at held [] y ys {d} n c = rw (append-nil held) (n.0 d c)
earlier_at held (x ∷ xs) y ys n c = rw (append_assoc held (x.info ∷ []) (infos_of xs)) at (earlier_at (held ++ x.info ∷ []) xs y ys n.1 c)

distinct_at : (xs : List PatchInfo) (i : PatchInfo) (ys : List PatchInfo) → Distinct (xs ++ i ∷ ys) → Contains xs i → ⊥
distinct_at [] i ys d c = none_of c
distinct_at (x ∷ xs) i ys d c = elim (one_of x xs c) [ inl e ↦ d.0 (rw e (Contains-append_right xs (i ∷ ys) i (here i ys))) | inr h ↦ distinct_at xs i ys d.1 h ]

-- a patch is in the closed set where the context has it, or one after it is there and names it
pub closed_after : (before : List Patch) (x : Patch) (after : List Patch) (context : List PatchInfo) →
    Distinct (infos_of (before ++ x ∷ after)) → NamesEarlier [] (before ++ x ∷ after) →
    Closed (before ++ x ∷ after) context x.info ↔ (Contains context x.info ⊎ ((y : Patch) × Contains after y × Closed (before ++ x ∷ after) context y.info × Contains y.deps x.info))
closed_after before x after context d n = (λ c. there x.info c refl, back)
  where
    fresh : Contains (infos_of before) x.info → ⊥
    fresh h = distinct_at (infos_of before) x.info (infos_of after) (rw (infos_of-append before (x ∷ after)) at d) h

    which : (y : Patch) → Contains (before ++ x ∷ after) y → Contains y.deps x.info → Contains after y
    which y m k = elim (Contains-append_cases before (x ∷ after) y m) [
      | inl h ↦ absurd (fresh (dep_held [] before (earlier_front [] before (x ∷ after) n) h k))
      | inr h ↦ elim (one_of x after h) [ inl e ↦ absurd (fresh (earlier_at [] before x after n (rw (← e) at k))) | inr a ↦ a ]
    ]

    there : (i : PatchInfo) → Closed (before ++ x ∷ after) context i → i ≡ x.info → Contains context x.info ⊎ ((y : Patch) × Contains after y × Closed (before ++ x ∷ after) context y.info × Contains y.deps x.info)
    there i (given h) e = inl (rw e at h)
    there i (needed {x = y} m c k) e = inr (y, which y m (rw e at k), c, rw e at k)

    back : Contains context x.info ⊎ ((y : Patch) × Contains after y × Closed (before ++ x ∷ after) context y.info × Contains y.deps x.info) → Closed (before ++ x ∷ after) context x.info
    back (inl h) = given h
    back (inr (y, a, c, k)) = needed (Contains-append_right before (x ∷ after) y (more x after a)) c k
