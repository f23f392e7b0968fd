-- Taking a bundle keeps the meaning of a repository.
use Rattle.std.proofs.Common.{◌≡◌, ◌↔◌, List, ◌++◌, inl, inr}
use Rattle.std.specs.List.{Contains}
use Rattle.std.proofs.lemmas.List.Elements.{Contains-append_left, Contains-append_right, Contains-append_cases}
use Rattle.dm_info.specs.PatchInfo.{PatchInfo}
use Rattle.dm_named.specs.Patches.{Patch}
use Rattle.dm_bundle.specs.Patches.{infos_of, Distinct, SameMembers}
use Rattle.dm_bundle.specs.Bundles.{Contents}
use Rattle.dm_repo.specs.Squares.{Placed, patches}
use Rattle.dm_repo.specs.Repositories.{Holds, IsRepo}
use Rattle.dm_repo.specs.CommonSets.{Closed, Common}
use Rattle.dm_repo.specs.Weighing.{IsCommon, IsHeld, IsBundleSplit}
use Rattle.dm_repo.proofs.Members.{infos_of-append}
use Rattle.dm_repo.proofs.Placed.{patches_placed}
use Rattle.dm_repo.proofs.Keeps.{common_held}
use Rattle.dm_repo.proofs.Staircases.{runs_on}
use Rattle.dm_facts.specs.Nodes.{NodeMap}
use Rattle.dm_converge.specs.Meanings.{Meaning, Builds}
use Rattle.dm_converge.specs.Laws as laws
use Rattle.dm_converge.proofs.Orders.{names_make_the_tree}
use Rattle.dm_converge.proofs.Names.{front_among, front_has, front_distinct, distinct_right, distinct_part, closed_same}
use Rattle.dm_converge.proofs.Patches.{split_runs_as, under_runs_as}

-- the front of the repository, and the author's patches with those of the bundle that are held
module _ (I : Type 0) (m : Meaning I) (repo : List Patch) (b : Contents) (ok : IsRepo repo) (before : List Patch)
    (is_context : (i : PatchInfo) → Holds before i ↔ Closed before b.context i) (distinct : Distinct (infos_of (before ++ b.patches))) {tree s : NodeMap I} (built : Builds m before tree)
    (builds : Builds m repo s) {front rest new : List Placed} (c : IsBundleSplit repo b front rest new) where
  in_repo : (i : PatchInfo) → Common repo b i → Holds repo i
  in_repo i k = common_held repo b ok.earlier c.repo_split.prerequisites.knows i k

  in_front : (i : PatchInfo) → Common repo b i → Contains (infos_of (patches front)) i
  in_front i k = front_has (Common repo b) c.repo_split.split i (rw (patches_placed 0 repo) (in_repo i k)) k

  of_front : (i : PatchInfo) → Contains (infos_of (patches front)) i → Common repo b i
  of_front i k = (front_among (Common repo b) c.repo_split.split i k).1

  held_among : (i : PatchInfo) → Contains (infos_of (patches c.held)) i → Holds b.patches i × Holds repo i
  held_among i k = rw (patches_placed 0 b.patches) at (front_among (Holds repo) c.split i k)

  of_author : (i : PatchInfo) → Contains (infos_of before ++ infos_of (patches c.held)) i → Common repo b i
  of_author i k = elim (Contains-append_cases (infos_of before) (infos_of (patches c.held)) i k) [
    | inl h ↦ inl (closed_same I m b.context before repo built builds (λ j q. in_repo j (inl q)) i ((is_context i).0 h))
    | inr h ↦ inr (held_among i h)
  ]

  by_author : (i : PatchInfo) → Common repo b i → Contains (infos_of before ++ infos_of (patches c.held)) i
  by_author i (inl k) = Contains-append_left (infos_of before) (infos_of (patches c.held)) i
      ((is_context i).1 (closed_same I m b.context repo before builds built (λ j q. (is_context j).1 q) i k))
  by_author i (inr k) = Contains-append_right (infos_of before) (infos_of (patches c.held)) i
      (front_has (Holds repo) c.split i (rw (patches_placed 0 b.patches) k.0) k.1)

  pub same_names : SameMembers (infos_of (patches front)) (infos_of (before ++ patches c.held))
  same_names i = rw (infos_of-append before (patches c.held)) (λ k. by_author i (of_front i k), λ k. in_front i (of_author i k))

  pub distinct_front : Distinct (infos_of (patches front))
  distinct_front = front_distinct (Common repo b) c.repo_split.split (rw (patches_placed 0 repo) ok.distinct)

  pub distinct_author : Distinct (infos_of (before ++ patches c.held))
  distinct_author =
      let d = rw (infos_of-append before b.patches) at distinct in
      rw (infos_of-append before (patches c.held))
      (distinct_part (infos_of before) (infos_of b.patches) (infos_of (patches c.held)) d
      (front_distinct (Holds repo) c.split (rw (patches_placed 0 b.patches) (distinct_right (infos_of before) (infos_of b.patches) d)))
      (λ i k. (held_among i k).0))

module _ (I : Type 0) where
  pub taking_keeps_meaning : laws.TakingKeepsMeaning I
  taking_keeps_meaning m once repo b policy merged skipped ok means g s builds =
      let c = g.fits.bundle_split in
      let a = split_runs_as I m (IsCommon repo b) repo g.fits.front g.rest c.repo_split.split _ s builds in
      let h = split_runs_as I m (IsHeld repo) b.patches c.held g.new c.split _ _ means.runs in
      let e : a.0 ≡ h.0 = names_make_the_tree I m once (patches g.fits.front) (means.before ++ patches c.held) a.0 h.0
      (distinct_front I m repo b ok means.before means.is_context means.distinct means.builds builds c)
      (distinct_author I m repo b ok means.before means.is_context means.distinct means.builds builds c)
      (same_names I m repo b ok means.before means.is_context means.distinct means.builds builds c)
      a.1 (runs_on means.builds h.1) in
      let z = under_runs_as I m policy g.rest g.new g.new' skipped g.merge a.0 s means.after a.2 (rw e h.2) in
      (z.0, runs_on builds (rw g.is_merged z.1))
