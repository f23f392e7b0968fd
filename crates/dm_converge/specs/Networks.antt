-- Mirrors that take texts of a pool, record patches, and send to each other.
use Rattle.std.specs.Prelude.{◌⊎◌, ℕ, List, [], ◌∷◌, ◌++◌}
use Rattle.std.specs.List.{Contains}
use Rattle.dm_info.specs.PatchInfo.{PatchInfo}
use Rattle.dm_named.specs.declared.limits.Limits.{Limits}
use Rattle.dm_named.specs.declared.limits.Kinds.{Kinds}
use Rattle.dm_named.specs.Patches.{Patch}
use Rattle.dm_bundle.specs.Bundles.{Contents, BundleTextIn}
use Rattle.dm_repo.specs.declared.policy.Policy.{Policy}
use Rattle.dm_repo.specs.Repositories.{Holds, IsRepo}
use Rattle.dm_scratch.specs.declared.verdict.Verdict.{Verdict}
use Rattle.dm_scratch.specs.Taking.{TakesWithin}
use Rattle.dm_send.specs.Sending.{Sends, SendsMinimal}
use Rattle.dm_converge.specs.Pools.{HasBundleIn, AreAmong}

-- the repository sends the bundle to somebody who holds patches of some names: a minimal one keeps some of its first patches
abbrev pub IsSentBy : List Patch → Contents → Type 0
IsSentBy repo b = (theirs : List PatchInfo) × (most : ℕ) × (Sends repo theirs most b ⊎ ((base : ℕ) × SendsMinimal repo base theirs most b))

-- the text stands for a bundle that was sent, whose primitives are of these kinds
abbrev pub StandsForSent : Kinds → List Contents → List ℕ → Type 0
StandsForSent kinds sent text = (b : Contents) × Contains sent b × BundleTextIn kinds text b

-- the name is new: neither the base nor any repository holds it, and no bundle of the pool, of primitives of these kinds, has a new patch of it
pub record IsNew (kinds : Kinds) (pool : List (List ℕ)) (base : List Patch) (repos : List (List Patch)) (i : PatchInfo) : Type 0 where
  pub unheld : (r : List Patch) → Contains (base ∷ repos) r → Holds r i → ⊥
  pub unpooled : (b : Contents) → HasBundleIn kinds pool b → Holds b.patches i → ⊥

-- the repositories of mirrors that began with one base, and the bundles that they sent: a mirror joins; one takes a text of the pool, or a text
-- of what was sent, under some policy and within some limits, which allow no more kinds of primitives than these; one records a patch of a new name; or one sends, and what it sent stays
pub data Network (kinds : Kinds) (pool : List (List ℕ)) (base : List Patch) : List (List Patch) → List Contents → Type 0 where
  nobody : Network kinds pool base [] []
  joins : {repos : List (List Patch)} {sent : List Contents} → Network kinds pool base repos sent → Network kinds pool base (base ∷ repos) sent
  takes : (before : List (List Patch)) (repo : List Patch) (behind : List (List Patch)) {after : List Patch} {sent : List Contents} {limits : Limits} {text : List ℕ} {policy : Policy} {verdict : Verdict} →
      Network kinds pool base (before ++ repo ∷ behind) sent → Contains pool text ⊎ StandsForSent kinds sent text → AreAmong limits.kinds kinds →
      TakesWithin limits repo text policy verdict after →
      Network kinds pool base (before ++ after ∷ behind) sent
  records : (before : List (List Patch)) (repo : List Patch) (behind : List (List Patch)) (x : Patch) {sent : List Contents} →
      Network kinds pool base (before ++ repo ∷ behind) sent → IsNew kinds pool base (before ++ repo ∷ behind) x.info → IsRepo (repo ++ x ∷ []) →
      Network kinds pool base (before ++ (repo ++ x ∷ []) ∷ behind) sent
  sends : {repos : List (List Patch)} {repo : List Patch} {sent : List Contents} {b : Contents} →
      Network kinds pool base repos sent → Contains repos repo → IsSentBy repo b → Network kinds pool base repos (b ∷ sent)
