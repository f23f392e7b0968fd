-- Whether a name is of the base.
use Rattle.std.proofs.Common.{◌≡◌, ℕ, List, take}
use Rattle.std.specs.List.{Any, Contains}
use Rattle.std.proofs.lemmas.List.{take-map}
use Rattle.dm_info.specs.PatchInfo.{PatchInfo}
use Rattle.dm_named.specs.Patches.{Patch}
use Rattle.dm_bundle.specs.Patches.{infos_of}
use Rattle.dm_commands.specs.Obliterating.{NamesBase}

abbrev pub IsOfFirst : List Patch → ℕ → PatchInfo → Type 0
IsOfFirst repo n i = Contains (take n (infos_of repo)) i

same_names : (repo : List Patch) (n : ℕ) → take n (infos_of repo) ≡ infos_of (take n repo)
same_names repo n = take-map (λ (x : Patch). x.info) n repo

pub named_first : (repo : List Patch) (names : List PatchInfo) (n : ℕ) → Any (λ i. IsOfFirst repo n i) names → NamesBase repo n names
named_first repo names n (k, i, l, e, c) = record {
  name = i;
  is_named = (k, l, e);
  is_of_base = rw (same_names repo n) at c;
}

pub first_named : (repo : List Patch) (names : List PatchInfo) (n : ℕ) → NamesBase repo n names → Any (λ i. IsOfFirst repo n i) names
first_named repo names n h = (h.is_named.0, h.name, h.is_named.1, h.is_named.2, rw (same_names repo n) h.is_of_base)
