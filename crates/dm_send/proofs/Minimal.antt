-- What is sent with no more context than it needs is taken as it stands behind all that is shared.
use Rattle.std.proofs.Common.{◌≡◌, ◌≢◌, ℕ, List, [], ◌∷◌, ◌++◌, take, reverse, inl, inr, refl, sym, ap, ◌∙◌}
use Rattle.std.specs.List.{Contains}
use Rattle.std.proofs.lemmas.List.Elements.{Contains-append_left}
use Rattle.dm_info.specs.PatchInfo.{PatchInfo}
use Rattle.dm_named.specs.Patches.{Patch}
use Rattle.dm_named.specs.Commuting.{NamedCommutes}
use Rattle.dm_bundle.specs.Bundles.{HasNoDoubles}
use Rattle.dm_bundle.specs.Patches.{infos_of}
use Rattle.dm_repo.specs.CommonSets.{Closed, Common, given, needed}
use Rattle.dm_repo.specs.Repositories.{IsRepo}
use Rattle.dm_repo.specs.Sifting.{MergesUnder}
use Rattle.dm_repo.specs.Squares.{Merges, Placed, patches, placed}
use Rattle.dm_repo.specs.Staircases.{Split}
use Rattle.dm_repo.specs.Weighing.{Fits, IsHeld, IsMergeOf}
use Rattle.dm_repo.specs.declared.policy.Policy.{Policy}
use Rattle.dm_repo.specs.declared.policy.Policy.TheVariants.{Refuse, Skip}
use Rattle.dm_repo.proofs.Members.{infos_of-append, none_of}
use Rattle.dm_repo.proofs.Placed.{patches_placed}
use Rattle.dm_repo.proofs.SiftLemmas.{policies_agree, some_new}
use Rattle.dm_repo.proofs.Squares.{merges_one, named_one}
use Rattle.dm_repo.proofs.Staircases.{rect_one, split_one}
use Rattle.dm_send.specs.Minimizing.{MinimizesBehind}
use Rattle.dm_send.specs.Laws as laws
use Rattle.dm_send.specs.Sending.{Accepts, TakesAs, behind}
use Rattle.dm_send.proofs.Parting.{in_reverse, to_reverse}
use Rattle.dm_send.proofs.Placeless.{merge_without, split_without, turned_all}
use Rattle.dm_send.proofs.Sharing.{name_held}
use Rattle.dm_send.proofs.Stairs.{Steps, apart_stair, head_needed, in_stair, names_needed, rect_infos, steps_behind, tagged}
use Rattle.dm_send.proofs.Whole.{none_in, nothing_named}

-- where all are merged, nothing is skipped under either policy
under_each : (policy : Policy) (rest new merged : List Placed) (count : ℕ) → new ≢ [] → MergesUnder Refuse rest new merged count → MergesUnder policy rest new merged 0
under_each Refuse rest new merged count some m = (m.0, refl)
under_each Skip rest [] merged count some m = absurd (some refl)
under_each Skip rest (n ∷ new) merged count some m = (policies_agree rest n new merged).0 (m.0, refl)

module _ (shared new : List Patch) (ok : IsRepo shared) (apart : (i : PatchInfo) → Contains (infos_of new) i → Contains (infos_of shared) i → ⊥)
    (kept sent gone : List Patch) {base : ℕ} (m : MinimizesBehind NamedCommutes base shared new kept sent gone) where
  way : Steps shared new kept sent gone
  way = steps_behind m

  sent_infos : infos_of sent ≡ infos_of new
  sent_infos = rect_infos way.past

  pub is_context : (i : PatchInfo) → Contains (reverse (infos_of kept)) i → Contains (infos_of shared) i
  is_context i c = in_stair way.stair (in_reverse (infos_of kept) c)

  -- what is kept is closed
  closed : {i : PatchInfo} → Closed shared (reverse (infos_of kept)) i → Contains (infos_of kept) i
  closed (given c) = in_reverse (infos_of kept) c
  closed (needed h c d) = elim (names_needed [] way.stair ok.earlier (head_needed way.stair ok.distinct h (closed c)) d) [ inl k ↦ absurd (none_of k) | inr k ↦ k ]

  is_common : (i : PatchInfo) → Contains (infos_of kept) i → Common shared (behind kept sent) i
  is_common i c = inl (given (to_reverse (infos_of kept) c))

  isnt_common : (i : PatchInfo) → Contains (infos_of way.between) i → Common shared (behind kept sent) i → ⊥
  isnt_common i c h = elim h [ inl k ↦ apart_stair way.stair ok.distinct (closed k) c | inr k ↦ apart i (rw sent_infos at k.0) k.1 ]

  parted : Split NamedCommutes (λ x. Common shared (behind kept sent) x.info) shared kept way.between
  parted = tagged (Common shared (behind kept sent)) way.stair is_common isnt_common

  unheld : (x : Placed) → Contains (placed sent) x → IsHeld shared x → ⊥
  unheld x c h = apart x.1.info (rw sent_infos at (name_held sent c)) h

  -- what is merged is new as it stands behind all that is shared
  merged_is : {rest chosen chosen' : List Placed} {count : ℕ} → Fits shared (behind kept sent) rest chosen → MergesUnder Refuse rest chosen chosen' count → patches chosen' ≡ new
  merged_is {rest} {chosen} {chosen'} f g =
      let s = rw (patches_placed 0 shared) at (split_without (Common shared (behind kept sent)) f.bundle_split.repo_split.split) in
      let r : patches rest ≡ way.between = sym (split_one Patch NamedCommutes named_one (λ x. Common shared (behind kept sent) x.info) refl parted s).1 in
      let n : patches chosen ≡ sent = ap patches (none_in unheld f.bundle_split.split).1 ∙ patches_placed 0 sent in
      (rect_one Patch Merges merges_one refl (rw (r, n) at (merge_without g.0.1)) (turned_all way.past)).0

  pub taken_as : {merged : List Patch} {skipped : ℕ} → IsMergeOf shared (behind kept sent) Refuse merged skipped → (policy : Policy) → IsMergeOf shared (behind kept sent) policy new 0
  taken_as {merged} {skipped} w policy =
      let e : patches w.new' ≡ new = merged_is w.fits w.merge in
      record {
        rest = w.rest;
        new = w.new;
        new' = w.new';
        fits = w.fits;
        merge = under_each policy w.rest w.new w.new' skipped (some_new shared (behind kept sent) w.fits.bundle_split) w.merge;
        is_merged = sym e;
        appends = rw (w.is_merged ∙ e) at w.appends;
      }

  pub takes : Accepts shared (behind kept sent) → TakesAs shared (behind kept sent) new
  takes a policy some = elim a [
    | inl n ↦ absurd (some (nothing_named sent (λ i c. apart i (rw sent_infos at c) (n.all_held i c))))
    | inr w ↦ taken_as w.2 policy
  ]

  pub sent_apart : HasNoDoubles new (reverse (infos_of shared)) → HasNoDoubles sent (reverse (infos_of kept))
  sent_apart d = record {
    distinct = rw sent_infos d.distinct;
    apart = λ i c h. d.apart i (rw sent_infos at c) (to_reverse (infos_of shared) (is_context i h));
  }

pub base_is_named : laws.BaseIsNamed
base_is_named base shared new kept sent gone m i c =
    let first : Contains (infos_of (take base shared ++ m.needed)) i = rw (infos_of-append (take base shared) m.needed) (Contains-append_left (infos_of (take base shared)) (infos_of m.needed) i c) in
    to_reverse (infos_of kept) (rw m.is_kept first)

pub no_base_keeps_nothing : laws.NoBaseKeepsNothing
no_base_keeps_nothing shared new kept sent gone = (λ m. rw m.is_kept m.minimizes, λ m. record { needed = kept; minimizes = m; is_kept = refl })
