-- A bundle behind all patches of a repository is taken as it is.
use Rattle.std.proofs.Common.{◌≡◌, ◌≤◌, ◌+◌, ℕ, List, [], ◌∷◌, length, inl, inr, refl, sym, ap, ◌∙◌}
use Rattle.std.specs.List.{Contains}
use Rattle.std.proofs.lemmas.List.{length-map}
use Rattle.dm_info.specs.PatchInfo.{PatchInfo}
use Rattle.dm_prim.specs.Rectangles.{CellRow, none, next}
use Rattle.dm_named.specs.Patches.{Patch}
use Rattle.dm_bundle.specs.Patches.{infos_of}
use Rattle.dm_repo.specs.CommonSets.{given}
use Rattle.dm_repo.specs.Sifting.{MergesUnder}
use Rattle.dm_repo.specs.Squares.{Placed, patches, placed}
use Rattle.dm_repo.specs.Staircases.{Split, nothing, stays, yields}
use Rattle.dm_repo.specs.Weighing.{Fits, IsCommon, IsHeld, IsMergeOf, IsNothingNew, most_patches}
use Rattle.dm_repo.specs.declared.policy.Policy.{Policy}
use Rattle.dm_repo.specs.declared.policy.Policy.TheVariants.{Refuse}
use Rattle.dm_repo.proofs.Following.{merges_whole}
use Rattle.dm_repo.proofs.Members.{here, more}
use Rattle.dm_repo.proofs.Placed.{patches_placed}
use Rattle.dm_repo.proofs.SiftLemmas.{some_new, under_one, whole_under}
use Rattle.dm_send.specs.Sending.{Accepts, TakesAs, behind}
use Rattle.dm_send.proofs.Parting.{to_reverse}
use Rattle.dm_send.proofs.Sharing.{name_held}

-- what passes nothing stays
past_nothing : {P : Type 0} {Square : P → P → P → P → Type 0} {x x' : P} {ys ys' : List P} → ys ≡ [] → CellRow Square x ys ys' x' → (ys' ≡ []) × (x' ≡ x)
past_nothing e none = (refl, refl)
past_nothing e (next c s) = absurd (cc)

module _ {P : Type 0} {Square : P → P → P → P → Type 0} {In : P → Type 0} where
  -- where all are in the set nothing is behind
  all_in : {xs front rest : List P} → ((x : P) → Contains xs x → In x) → Split Square In xs front rest → rest ≡ []
  all_in f nothing = refl
  all_in f (stays {h} {xs} i s) = all_in (λ x c. f x (more h xs c)) s
  all_in f (yields {r} {xs} o s t) = absurd (o (f r (here r xs)))

  -- where none is nothing moves
  pub none_in : {xs front rest : List P} → ((x : P) → Contains xs x → In x → ⊥) → Split Square In xs front rest → (front ≡ []) × (rest ≡ xs)
  none_in f nothing = (refl, refl)
  none_in f (stays {h} {xs} i s) = absurd (f h (here h xs) i)
  none_in f (yields {r} {xs} o s t) =
      let q = none_in (λ x c. f x (more r xs c)) s in
      let e = past_nothing q.0 t in
      (e.0, rw (e.1, q.1) refl)

-- patches without a name are none
pub nothing_named : (xs : List Patch) → ((i : PatchInfo) → Contains (infos_of xs) i → ⊥) → xs ≡ []
nothing_named [] f = refl
nothing_named (x ∷ xs) f = absurd (f x.info (here x.info (infos_of xs)))

module _ (shared new : List Patch) (apart : (i : PatchInfo) → Contains (infos_of new) i → Contains (infos_of shared) i → ⊥) where
  common : (x : Placed) → Contains (placed shared) x → IsCommon shared (behind shared new) x
  common x c = inl (given (to_reverse (infos_of shared) (name_held shared c)))

  unheld : (x : Placed) → Contains (placed new) x → IsHeld shared x → ⊥
  unheld x c h = apart x.1.info (name_held new c) h

  -- what fits is all of the bundle, after all of the repository
  fits_all : {rest chosen : List Placed} → Fits shared (behind shared new) rest chosen → (rest ≡ []) × (chosen ≡ placed new)
  fits_all f = (all_in common f.bundle_split.repo_split.split, (none_in unheld f.bundle_split.split).1)

  few_all : {chosen : List Placed} → chosen ≡ placed new → length shared + length new ≤ most_patches → length shared + length chosen ≤ most_patches
  few_all {chosen} e few = rw (sym (length-map chosen (λ (x : Placed). x.1)) ∙ ap length (ap patches e ∙ patches_placed 0 new)) few

  merged_is : (policy : Policy) {rest chosen chosen' : List Placed} {skipped : ℕ} → Fits shared (behind shared new) rest chosen → MergesUnder policy rest chosen chosen' skipped → (chosen' ≡ placed new) × (skipped ≡ 0)
  merged_is policy {rest} {chosen} {chosen'} {skipped} f m =
      let e = fits_all f in
      let whole = whole_under policy (some_new shared (behind shared new) f.bundle_split) in
      let one = under_one policy [] chosen chosen' chosen skipped 0 (rw e.0 at m) whole in
      (one.0 ∙ e.1, one.1)

  pub taken_is : (policy : Policy) {merged : List Patch} {skipped : ℕ} → IsMergeOf shared (behind shared new) policy merged skipped → (merged ≡ new) × (skipped ≡ 0)
  taken_is policy {merged} m = let e = merged_is policy m.fits m.merge in (m.is_merged ∙ ap patches e.0 ∙ patches_placed 0 new, e.1)

  pub taken_under : (policy other : Policy) {merged : List Patch} {skipped : ℕ} → IsMergeOf shared (behind shared new) policy merged skipped → IsMergeOf shared (behind shared new) other new 0
  taken_under policy other {merged} m =
      let e = fits_all m.fits in
      let t = taken_is policy m in
      let few : length shared + length new ≤ most_patches = rw t.0 at m.appends.few in
      let whole = merges_whole shared (behind shared new) other (rw e.0 at m.fits) (few_all e.1 few) in
      let n : patches m.new ≡ new = ap patches e.1 ∙ patches_placed 0 new in
      rw n at whole

  pub nothing_new : IsNothingNew shared (behind shared new) → new ≡ []
  nothing_new n = nothing_named new (λ i c. apart i c (n.all_held i c))

  pub takes_whole : Accepts shared (behind shared new) → TakesAs shared (behind shared new) new
  takes_whole a policy some = elim a [ inl n ↦ absurd (some (nothing_new n)) | inr w ↦ taken_under Refuse policy w.2 ]
