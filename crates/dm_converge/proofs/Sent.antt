-- What a repository sends is what its names mean.
use Rattle.std.proofs.Common.{◌≡◌, inl, inr, ℕ, List, [], ◌∷◌, ◌++◌, take, drop, reverse, refl, ap₂}
use Rattle.std.specs.List.{Contains}
use Rattle.std.proofs.lemmas.List.{take-append-drop}
use Rattle.std.proofs.lemmas.List.Elements.{Contains-append_left}
use Rattle.dm_info.specs.PatchInfo.{PatchInfo}
use Rattle.dm_prim.specs.InTurn.{done, step}
use Rattle.dm_prim.specs.Rectangles.{CellRow, none, next}
use Rattle.dm_prim.proofs.RectangleLemmas.{one, rectangle_runs}
use Rattle.dm_named.specs.Patches.{Patch}
use Rattle.dm_named.specs.Commuting.{NamedCommutes}
use Rattle.dm_bundle.specs.Patches.{infos_of, Distinct}
use Rattle.dm_bundle.specs.Bundles.{Contents}
use Rattle.dm_repo.specs.Squares.{patches}
use Rattle.dm_repo.specs.Repositories.{Holds, NamesEarlier, IsRepo}
use Rattle.dm_repo.specs.CommonSets.{Closed, given, needed}
use Rattle.dm_repo.proofs.Members.{here, more, one_of, none_of, dep_held, infos_of-append, distinct_on}
use Rattle.dm_repo.proofs.Placed.{patches_placed}
use Rattle.dm_repo.proofs.Staircases.{runs_part}
use Rattle.dm_send.specs.Sending.{IsDivided, IsShared, behind}
use Rattle.dm_send.proofs.Parting.{in_reverse, to_reverse, are_apart, no_doubles}
use Rattle.dm_send.proofs.Stairs.{Stair, nothing, stays, yields, heads, Steps, steps_behind, in_stair, names_needed, rect_infos}
use Rattle.dm_facts.specs.Nodes.{NodeMap}
use Rattle.dm_converge.specs.Meanings.{Meaning, LeadsAs, Runs, root_of, Builds, MeansSo}
use Rattle.dm_converge.specs.Networks.{IsSentBy}
use Rattle.dm_converge.specs.Laws as laws
use Rattle.dm_converge.proofs.Names.{front_among, rest_among}
use Rattle.dm_converge.proofs.Patches.{named_leads, split_runs_as}

-- what the names of patches in a repository name, with what that names, are these names
closed_held : (xs : List Patch) → NamesEarlier [] xs → (i : PatchInfo) → Closed xs (reverse (infos_of xs)) i → Holds xs i
closed_held xs n i (given c) = in_reverse (infos_of xs) c
closed_held xs n i (needed h c d) = dep_held [] xs n h d

-- the names of what is needed
row_names : {x x' : Patch} {ys ys' : List Patch} → CellRow NamedCommutes x ys ys' x' → infos_of ys' ≡ infos_of ys
row_names none = refl
row_names (next c s) = ap₂ (λ i is. i ∷ is) c.y_stays.info (row_names s)

needed_distinct : {xs need gone : List Patch} → Stair xs need gone → Distinct (infos_of xs) → Distinct (infos_of need)
needed_distinct nothing d = d
needed_distinct (stays s) d = (λ c. d.0 (in_stair s c), needed_distinct s d.1)
needed_distinct (yields s t) d = rw (row_names t) (needed_distinct s d.1)

in_heads : (xs : List Patch) {x : Patch} → Contains xs x → Contains (heads xs) (x.info, x.deps)
in_heads [] c = absurd (none_of c)
in_heads (y ∷ ys) c = elim (one_of y ys c) [ inl e ↦ rw (← e) (here (y.info, y.deps) (heads ys)) | inr d ↦ more (y.info, y.deps) (heads ys) (in_heads ys d) ]

needed_held : {xs need gone : List Patch} → Stair xs need gone → NamesEarlier [] xs → (i : PatchInfo) → Closed need (reverse (infos_of need)) i → Holds need i
needed_held {need} s n i (given c) = in_reverse (infos_of need) c
needed_held {need} s n i (needed h c d) = elim (names_needed [] s n (in_heads need h) d) [ inl k ↦ absurd (none_of k) | inr k ↦ k ]

module _ (I : Type 0) (m : Meaning I) where
  alone : {x : Patch} {s t : NodeMap I} → Runs m (x ∷ []) s t → LeadsAs m x s t
  alone (step h done) = h

  stair_runs : {xs need gone : List Patch} {s u : NodeMap I} → Stair xs need gone → Runs m xs s u → (v : NodeMap I) × Runs m need s v × Runs m gone v u
  stair_runs nothing done = (_, done, done)
  stair_runs (stays s) (step h r) = let a = stair_runs s r in (a.0, step h a.1, a.2)
  stair_runs (yields s t) (step h r) =
      let a = stair_runs s r in
      let b = rectangle_runs Patch (NodeMap I) NamedCommutes (LeadsAs m) (named_leads I m) (one Patch NamedCommutes t) (step h done) a.1 in
      (b.0, b.1, step (alone b.2) a.2)

  -- a bundle that means so, with names of a repository
  pub record IsMeantBy (repo : List Patch) (b : Contents) : Type 0 where
    pub means : MeansSo m b
    pub before_held : (i : PatchInfo) → Holds means.before i → Holds repo i
    pub new_held : (i : PatchInfo) → Holds b.patches i → Holds repo i

  module _ (repo : List Patch) (s : NodeMap I) (ok : IsRepo repo) (builds : Builds m repo s) where
    -- the repository in two parts, of which the first is one by itself
    record InParts (shared new : List Patch) : Type 0 where
      mid : NodeMap I
      end : NodeMap I
      first : Builds m shared mid
      second : Runs m new mid end
      distinct : Distinct (infos_of new)
      apart : (i : PatchInfo) → Holds new i → Holds shared i → ⊥
      first_held : (i : PatchInfo) → Holds shared i → Holds repo i
      second_held : (i : PatchInfo) → Holds new i → Holds repo i

    first_of : (most : ℕ) (xs : List Patch) (i : PatchInfo) → Holds (take most xs) i → Holds xs i
    first_of most xs i h =
        let c : Contains (infos_of (take most xs ++ drop most xs)) i = rw (infos_of-append (take most xs) (drop most xs)) (Contains-append_left (infos_of (take most xs)) (infos_of (drop most xs)) i h) in
        rw (take-append-drop most xs) at c

    in_parts : (theirs : List PatchInfo) (most : ℕ) (shared new : List Patch) → IsDivided repo theirs most shared new → InParts shared new
    in_parts theirs most shared new d =
        let r = split_runs_as I m (IsShared repo theirs) repo d.front d.rest d.split (root_of m.root) s builds in
        let later = patches d.rest in
        let all : Runs m (take most later ++ drop most later) r.0 s = rw (take-append-drop most later) r.2 in
        let p = runs_part (take most later) {ys = drop most later} all in
        record {
          mid = r.0;
          end = p.0;
          first = rw d.is_shared r.1;
          second = rw d.is_new p.1;
          distinct = rw d.is_new (no_doubles (Closed repo theirs) shared later most d.names ok.distinct).distinct;
          apart = λ i h k. are_apart (Closed repo theirs) shared later most d.names ok.distinct i (rw d.is_new at h) k;
          first_held = λ i h. rw (patches_placed 0 repo) at ((front_among (Closed repo theirs) d.split i (rw d.is_shared at h)).0);
          second_held = λ i h. rw (patches_placed 0 repo) at (rest_among (Closed repo theirs) d.split i (first_of most later i (rw d.is_new at h)));
        }

    whole : (theirs : List PatchInfo) (most : ℕ) (shared new : List Patch) → IsDivided repo theirs most shared new → IsMeantBy repo (behind shared new)
    whole theirs most shared new d =
        let p = in_parts theirs most shared new d in
        record {
          means = record {
            before = shared;
            is_context = λ i. (λ h. given (to_reverse (infos_of shared) h), closed_held shared d.is_repo.earlier i);
            distinct = rw (infos_of-append shared new) (distinct_on (infos_of shared) (infos_of new) d.is_repo.distinct p.distinct (λ i h k. p.apart i k h));
            tree = p.mid;
            after = p.end;
            builds = p.first;
            runs = p.second;
          };
          before_held = p.first_held;
          new_held = p.second_held;
        }

    minimal : (theirs : List PatchInfo) (most : ℕ) (shared new need out gone : List Patch) → IsDivided repo theirs most shared new → Steps shared new need out gone → IsMeantBy repo (behind need out)
    minimal theirs most shared new need out gone d w =
        let p = in_parts theirs most shared new d in
        let a = stair_runs w.stair p.first in
        let r = rectangle_runs Patch (NodeMap I) NamedCommutes (LeadsAs m) (named_leads I m) w.past a.2 p.second in
        let same : infos_of out ≡ infos_of new = rect_infos w.past in
        record {
          means = record {
            before = need;
            is_context = λ i. (λ h. given (to_reverse (infos_of need) h), needed_held w.stair d.is_repo.earlier i);
            distinct = rw (infos_of-append need out) (distinct_on (infos_of need) (infos_of out) (needed_distinct w.stair d.is_repo.distinct) (rw same p.distinct)
                (λ i h k. p.apart i (rw same at k) (in_stair w.stair h)));
            tree = a.0;
            after = r.0;
            builds = a.1;
            runs = r.1;
          };
          before_held = λ i h. p.first_held i (in_stair w.stair h);
          new_held = λ i h. p.second_held i (rw same at h);
        }

    pub sent_meant : (b : Contents) → IsSentBy repo b → IsMeantBy repo b
    sent_meant b (theirs, most, inl w) = rw w.is_sent (whole theirs most w.shared w.new w.divided)
    sent_meant b (theirs, most, inr (base, w)) = rw w.is_sent (minimal theirs most w.shared w.new w.kept w.sent w.gone w.divided (steps_behind w.minimizes))

module _ (I : Type 0) where
  pub sent_means_so : laws.SentMeansSo I
  sent_means_so m repo b s ok builds h = (sent_meant I m repo s ok builds b h).means
