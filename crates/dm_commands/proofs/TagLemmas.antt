-- What is sent of a repository with a base is taken, though of the base the tag alone is named.
use Rattle.std.proofs.Common.{◌≡◌, ◌≢◌, ◌⊎◌, inl, inr, ℕ, ◌+◌, ◌≤◌, zero, suc, List, [], ◌∷◌, ◌++◌, length, take, refl, sym, ap, subst, ◌∙◌}
use Rattle.std.specs.List.{Contains}
use Rattle.std.proofs.lemmas.List.{take-map}
use Rattle.dm_info.specs.PatchInfo.{PatchInfo}
use Rattle.dm_named.specs.Patches.{Patch}
use Rattle.dm_bundle.specs.Bundles.{Contents}
use Rattle.dm_bundle.specs.Patches.{infos_of}
use Rattle.dm_repo.specs.declared.policy.Policy.{Policy}
use Rattle.dm_repo.specs.Laws.{Merged}
use Rattle.dm_repo.specs.Repositories.{IsRepo}
use Rattle.dm_repo.specs.Squares.{Placed, placed, placed_from, patches, PlacedCommutes}
use Rattle.dm_repo.specs.Staircases.{Split, nothing, stays, yields}
use Rattle.dm_repo.proofs.Members.{here, more, one_of, none_of}
use Rattle.dm_repo.proofs.Placed.{patches_placed}
use Rattle.dm_begin.specs.Bases.{CutsBase, IsBase, KnowsBase, MayHaveBase}
use Rattle.dm_begin.specs.BaseLaws.{LastBringsAll}
use Rattle.dm_begin.proofs.BoundLemmas.{cut_answers_alike}
use Rattle.dm_begin.proofs.BroughtLemmas.{base_is_brought}
use Rattle.dm_send.specs.Sending.{IsDivided, IsShared, TakesAs}
use Rattle.dm_commands.proofs.KeptLemmas.{long_enough}

-- the first of a list stay where they are if all of them are inside
front_keeps : {P : Type 0} {Square : P → P → P → P → Type 0} {In : P → Type 0} {xs front rest : List P} → Split Square In xs front rest → (n : ℕ) → ((x : P) → Contains (take n xs) x → In x) → take n front ≡ take n xs
front_keeps p zero all = refl
front_keeps nothing (suc n) all = refl
front_keeps (stays {h} {xs} {front} o p) (suc n) all = ap (λ l. h ∷ l) (front_keeps p n (λ x c. all x (more h (take n xs) c)))
front_keeps (yields {r} {r'} {xs} o p c) (suc n) all = absurd (o (all r (here r (take n xs))))

placed_name : (n k : ℕ) (xs : List Patch) (x : Placed) → Contains (take n (placed_from k xs)) x → Contains (infos_of (take n xs)) x.1.info
placed_name zero k xs x c = absurd (none_of c)
placed_name (suc n) k [] x c = absurd (none_of c)
placed_name (suc n) k (y ∷ ys) x c = elim (one_of (k, y) (take n (placed_from (k + 1) ys)) c) [
  | inl e ↦ subst (λ (z : Placed). Contains (y.info ∷ infos_of (take n ys)) z.1.info) e (here y.info (infos_of (take n ys)))
  | inr m ↦ more y.info (infos_of (take n ys)) (placed_name n (k + 1) ys x m)
]

-- who knows the base shares it, and it stands first in what is shared
pub shared_base : (repo : List Patch) (base : ℕ) (names : List PatchInfo) (most : ℕ) (shared new : List Patch) → KnowsBase repo base names → IsDivided repo names most shared new → take base shared ≡ take base repo
shared_base repo base names most shared new k d =
    let f : take base d.front ≡ take base (placed repo) = front_keeps d.split base (λ x c. k x.1.info (placed_name base 0 repo x c)) in
    ap (take base) d.is_shared ∙ take-map (λ (x : Placed). x.1) base d.front ∙ ap patches f ∙ sym (take-map (λ (x : Placed). x.1) base (placed repo)) ∙ ap (take base) (patches_placed 0 repo)

-- a repository with the same base may have it too
pub may_also : (repo other : List Patch) (base : ℕ) → MayHaveBase repo base → take base other ≡ take base repo → MayHaveBase other base
may_also repo other base m e = record {
  within = long_enough base repo other m.within e;
  is_base = elim m.is_base [ inl z ↦ inl z | inr c ↦ inr (subst IsBase (sym e) c) ];
}

-- what takes a bundle takes the one of which the base was cut
pub cut_taken : (repo other : List Patch) (base : ℕ) (b cut : Contents) (new : List Patch) → IsRepo repo → MayHaveBase repo base → take base other ≡ take base repo → CutsBase repo base b cut → TakesAs other b new → TakesAs other cut new
cut_taken repo other base b cut new r m e c t policy some =
    let was : b.patches ≢ [] = λ none. some (c.patches ∙ none) in
    let taken = t policy was in
    let brings = subst (λ (l : List Patch). LastBringsAll other (infos_of l)) e (base_is_brought other base (may_also repo other base m e)) in
    (cut_answers_alike repo other b cut base r c brings taken.fits.bundle_split.repo_split.prerequisites.knows policy (Merged new 0)).0 taken
