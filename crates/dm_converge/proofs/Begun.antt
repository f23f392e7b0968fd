-- Bundles whose first patches are what their names mean.
use Rattle.std.proofs.Common.{◌≡◌, ◌⊎◌, inl, inr, ℕ, List, ◌++◌}
use Rattle.std.specs.List.{Contains}
use Rattle.std.proofs.lemmas.List.Elements.{Contains-append_left, Contains-append_right, Contains-append_cases}
use Rattle.dm_info.specs.PatchInfo.{PatchInfo}
use Rattle.dm_named.specs.Patches.{Patch}
use Rattle.dm_bundle.specs.Patches.{infos_of, Distinct}
use Rattle.dm_bundle.specs.Bundles.{Contents}
use Rattle.dm_repo.specs.Repositories.{Holds}
use Rattle.dm_repo.proofs.Members.{infos_of-append}
use Rattle.dm_converge.specs.Meanings.{Meaning, MeansSo}
use Rattle.dm_converge.proofs.Names.{distinct_apart}
use Rattle.dm_converge.proofs.Labels.{AgreeBut, runs_agree, builds_agree}

-- a bundle is what its names mean, over patches of these names
abbrev pub MeansOver : Meaning ℕ → List PatchInfo → Contents → Type 0
MeansOver m names b = (means : MeansSo m b) × ((i : PatchInfo) → Holds means.before i → Contains names i)

pub wider : (m : Meaning ℕ) (names more : List PatchInfo) (b : Contents) → ((i : PatchInfo) → Contains names i → Contains more i) → MeansOver m names b → MeansOver m more b
wider m names more b f w = (w.0, λ i h. f i (w.1 i h))

-- so it is by another meaning that is the same for these names, and for those of the bundle
pub means_agree : {but : List PatchInfo} {m k : Meaning ℕ} → AgreeBut but m k → (names : List PatchInfo) (b : Contents) → ((i : PatchInfo) → Contains names i → Contains but i → ⊥) →
    ((i : PatchInfo) → Holds b.patches i → Contains but i → ⊥) → MeansOver m names b → MeansOver k names b
means_agree a names b f g w =
    let m = w.0 in (
      record {
        before = m.before;
        is_context = m.is_context;
        distinct = m.distinct;
        tree = m.tree;
        after = m.after;
        builds = builds_agree a m.before (λ i h c. f i (w.1 i h) c) m.builds;
        runs = runs_agree a b.patches g m.runs;
      },
      w.1,
    )

-- the bundle with these patches alone
abbrev pub begun : Contents → List Patch → Contents
begun b first = record { patches = first; context = b.context }

-- the first patches of the bundle are what their names mean, over patches of these names; these names are given, and none of the others' is
pub record HasBegun (m : Meaning ℕ) (names given : List PatchInfo) (b : Contents) : Type 0 where
  pub first : List Patch
  pub rest : List Patch
  pub whole : b.patches ≡ first ++ rest
  pub means : MeansOver m names (begun b first)
  pub meant : (i : PatchInfo) → Holds first i → Contains given i
  pub new : (i : PatchInfo) → Holds rest i → Contains given i → ⊥

pub in_whole : (b : Contents) (first rest : List Patch) → b.patches ≡ first ++ rest → (i : PatchInfo) → Holds first i ⊎ Holds rest i → Holds b.patches i
in_whole b first rest e i (inl h) = rw (e, infos_of-append first rest) (Contains-append_left (infos_of first) (infos_of rest) i h)
in_whole b first rest e i (inr h) = rw (e, infos_of-append first rest) (Contains-append_right (infos_of first) (infos_of rest) i h)

pub of_whole : (b : Contents) (first rest : List Patch) → b.patches ≡ first ++ rest → (i : PatchInfo) → Holds b.patches i → Holds first i ⊎ Holds rest i
of_whole b first rest e i h = Contains-append_cases (infos_of first) (infos_of rest) i (rw (e, infos_of-append first rest) at h)

pub whole_apart : (b : Contents) (first rest : List Patch) → b.patches ≡ first ++ rest → Distinct (infos_of b.patches) → (i : PatchInfo) → Holds first i → Holds rest i → ⊥
whole_apart b first rest e d = distinct_apart (infos_of first) (infos_of rest) (rw (e, infos_of-append first rest) at d)

pub wider_begun : (m : Meaning ℕ) (names more given : List PatchInfo) (b : Contents) → ((i : PatchInfo) → Contains names i → Contains more i) → HasBegun m names given b → HasBegun m more given b
wider_begun m names more given b f w = record { first = w.first; rest = w.rest; whole = w.whole; means = wider m names more (begun b w.first) f w.means; meant = w.meant; new = w.new }

pub begun_agree : {but : List PatchInfo} {m k : Meaning ℕ} → AgreeBut but m k → (names given : List PatchInfo) (b : Contents) → ((i : PatchInfo) → Contains names i → Contains but i → ⊥) →
    ((i : PatchInfo) → Holds b.patches i → Contains but i → ⊥) → HasBegun m names given b → HasBegun k names given b
begun_agree a names given b f g w = record {
  first = w.first;
  rest = w.rest;
  whole = w.whole;
  means = means_agree a names (begun b w.first) f (λ i h. g i (in_whole b w.first w.rest w.whole i (inl h))) w.means;
  meant = w.meant;
  new = w.new;
}
