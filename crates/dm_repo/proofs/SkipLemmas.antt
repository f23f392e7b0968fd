-- Sifting that tells why patches are skipped.
use Rattle.std.proofs.Common.{◌≡◌, ℕ, ◌+◌, arith, length-append, List, [], ◌∷◌, ◌++◌, length, refl, sym, ap, ◌∙◌, append_assoc, append-nil}
use Rattle.dm_named.specs.Patches.{Patch}
use Rattle.dm_bundle.specs.Bundles.{Contents}
use Rattle.dm_repo.specs.declared.policy.Policy.TheVariants as policies
use Rattle.dm_repo.specs.declared.skip.Skip.{Skip}
use Rattle.dm_repo.specs.declared.skip.Stopper.{Stopper}
use Rattle.dm_repo.specs.declared.skip.Stopper.TheVariants.{Held, Skipped}
use Rattle.dm_repo.specs.Sifting as sifting
use Rattle.dm_repo.specs.Sifting.{MergesOver, MergesNowhere, Sifts}
use Rattle.dm_repo.specs.Skips.{AreSkips, nothing, sifted, IsStoppedBy, SiftsFor, ends, merges, skips}
use Rattle.dm_repo.specs.Squares.{Placed, PlacedCommutes}
use Rattle.dm_repo.specs.Weighing.{IsCommon, IsHeld, IsMergeOf}
use Rattle.dm_repo.proofs.Placed.{placed_one}
use Rattle.dm_repo.proofs.Staircases.{split_one}
use Rattle.dm_repo.proofs.SiftLemmas.{sift_one, pass_length, stuck_skipped, stuck_rest}

-- a patch that is stopped can't be merged so
stopped : {skipped rest : List Placed} {n : Placed} (by : Stopper) → IsStoppedBy skipped rest n by → MergesNowhere skipped rest n
stopped (Skipped k) (r, e, s) = stuck_skipped {r = r} s
stopped (Held k) (between, kept, r, e, p, s) = stuck_rest {r = r} p s

-- what is told changes nothing
pub sifts_untold : {skipped rest new merged left : List Placed} {told : List Skip} → SiftsFor skipped rest new merged left told → Sifts skipped rest new merged left
sifts_untold ends = sifting.ends
sifts_untold (merges o g) = sifting.merges o (sifts_untold g)
sifts_untold (skips {skip} e s g) = sifting.skips (stopped skip.by s) (sifts_untold g)

-- it is told of each patch that is skipped
told_length : {skipped rest new merged left : List Placed} {told : List Skip} → SiftsFor skipped rest new merged left told → length left ≡ length skipped + length told
told_length (ends {skipped}) = omega arith
told_length (merges o g) = let e = told_length g in let p = pass_length o.passes_skipped in omega (arith, e, p)
told_length (skips {n} {skipped} d s g) = let e = told_length g in omega (arith, e, length-append skipped (n ∷ []))

pub told_of_each : {rest new merged left : List Placed} {told : List Skip} → SiftsFor [] rest new merged left told → length left ≡ length told
told_of_each g = let e = told_length g in omega (arith, e)

-- weighing skips as many
pub are_counted : (repo : List Patch) (b : Contents) {told : List Skip} → AreSkips repo b told → (merged : List Patch) (count : ℕ) → IsMergeOf repo b policies.Skip merged count → count ≡ length told
are_counted repo b (nothing n) merged count m = absurd (m.fits.bundle_split.repo_split.prerequisites.is_new n.all_held)
are_counted repo b (sifted fits g) merged count m =
    let s = fits.bundle_split in
    let t = m.fits.bundle_split in
    let rest = (split_one Placed PlacedCommutes placed_one (IsCommon repo b) refl s.repo_split.split t.repo_split.split).1 in
    let new = (split_one Placed PlacedCommutes placed_one (IsHeld repo) refl s.split t.split).1 in
    let left = (sift_one refl rest (sifts_untold g) (rw (← new) at m.merge.1.1)).1 in
    m.merge.1.2 ∙ ap length (sym left) ∙ told_of_each g

-- the steps of a loop: what comes of the patches that are left completes what was merged of those before them, and what was told
module _ (rest0 new0 : List Placed) where
  abbrev pub Completes : List Placed → List Placed → List Placed → List Placed → List Skip → Type 0
  Completes skipped rest new merged told = (more left : List Placed) (tell : List Skip) → SiftsFor skipped rest new more left tell → SiftsFor [] rest0 new0 (merged ++ more) left (told ++ tell)

  pub completes_merged : (merged : List Placed) (told : List Skip) {skipped rest new skipped' rest' merged' : List Placed} {n n' : Placed} → Completes skipped rest (n ∷ new) merged told →
      MergesOver skipped rest n n' skipped' rest' → merged' ≡ merged ++ n' ∷ [] → Completes skipped' rest' new merged' told
  completes_merged merged told {n'} f o e more left tell g = rw (e, append_assoc merged (n' ∷ []) more) (f (n' ∷ more) left tell (merges o g))

  pub completes_skipped : (merged : List Placed) (told : List Skip) (skip : Skip) {skipped skipped1 rest rest1 new skipped' : List Placed} {told' : List Skip} {n : Placed} → Completes skipped rest (n ∷ new) merged told →
      skip.place ≡ n.0 → IsStoppedBy skipped rest n skip.by → skipped1 ≡ skipped → rest1 ≡ rest → skipped' ≡ skipped1 ++ n ∷ [] → told' ≡ told ++ skip ∷ [] → Completes skipped' rest1 new merged told'
  completes_skipped merged told skip {n} f d stuck s r e t more left tell g =
      rw (t, append_assoc told (skip ∷ []) tell) (f more left (skip ∷ tell) (skips d stuck (rw (e ∙ ap (λ l. l ++ n ∷ []) s, r) at g)))

  pub none_left : (skipped rest new merged : List Placed) (told : List Skip) → Completes skipped rest new merged told → length new ≡ 0 → SiftsFor [] rest0 new0 merged skipped told
  none_left skipped rest [] merged told f e = rw (append-nil merged, append-nil told) at (f [] skipped [] ends)
  none_left skipped rest (x ∷ new) merged told f e = absurd (cc)
