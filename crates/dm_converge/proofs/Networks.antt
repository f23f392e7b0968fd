-- Where a name stands for one patch, mirrors that take texts of a pool and send to each other give each patch one meaning.
use Rattle.std.proofs.Common.{◌≡◌, ◌⊎◌, inl, inr, ℕ, List, [], ◌∷◌, ◌++◌, refl, sym, ap, subst, ◌∙◌, arith, append-nil}
use Rattle.std.specs.List.{Contains}
use Rattle.std.proofs.lemmas.List.{map-append}
use Rattle.std.proofs.lemmas.List.Elements.{Contains-append_left, Contains-append_right, Contains-append_cases}
use Rattle.dm_info.specs.PatchInfo.{PatchInfo}
use Rattle.dm_prim.specs.InTurn.{InTurn, done, step}
use Rattle.dm_prim.specs.Primitives.{LawfulMap}
use Rattle.dm_named.specs.Patches.{Patch}
use Rattle.dm_named.specs.declared.limits.Kinds.{Kinds}
use Rattle.dm_named.specs.declared.limits.Kinds.TheVariants as these
use Rattle.dm_bundle.specs.Patches.{infos_of, Distinct}
use Rattle.dm_bundle.specs.Bundles.{Contents, BundleTextIn}
use Rattle.dm_bundle.proofs.OneBundle.{one_bundle}
use Rattle.dm_repo.specs.declared.policy.Policy.{Policy}
use Rattle.dm_repo.specs.Squares.{Placed, placed, patches, PlacedCommutes}
use Rattle.dm_repo.specs.Staircases.{Split}
use Rattle.dm_repo.specs.Folds.{PatchLeads}
use Rattle.dm_repo.specs.Repositories.{Holds, IsRepo}
use Rattle.dm_repo.specs.CommonSets.{Closed, Common}
use Rattle.dm_repo.specs.Weighing.{IsCommon, IsHeld, IsBundleSplit, IsMergeOf}
use Rattle.dm_repo.proofs.Members.{here, more, one_of, none_of, infos_of-append, distinct_on}
use Rattle.dm_repo.proofs.Placed.{patches_placed}
use Rattle.dm_repo.proofs.Keeps.{merge_is_repo, common_held}
use Rattle.dm_repo.proofs.Staircases.{runs_on, runs_part}
use Rattle.dm_repo.proofs.Trees.{runs_lead, grows_fold}
use Rattle.dm_scratch.specs.declared.verdict.Verdict.{Verdict}
use Rattle.dm_scratch.specs.Taking.{TakesEach, bundle, malformed, no_memory}
use Rattle.dm_facts.specs.Nodes.{NodeMap, plain}
use Rattle.dm_converge.specs.Meanings.{Meaning, Runs, root_of, Builds, MeansSo}
use Rattle.dm_converge.specs.Pools.{HasBundleIn, BeginAlike, NamesStandForOneIn, ComesOfIn, as_it_was, took}
use Rattle.dm_converge.specs.Networks.{StandsForSent, IsNew, Network, nobody, joins, takes, records, sends}
use Rattle.dm_converge.specs.Laws as laws
use Rattle.dm_converge.proofs.Wider.{among_stands}
use Rattle.dm_converge.proofs.Names.{front_among, front_has, front_distinct, distinct_right, distinct_left, distinct_apart, distinct_part, beginnings, closed_more, closed_same}
use Rattle.dm_converge.proofs.Orders.{names_make_the_tree, root_tree}
use Rattle.dm_converge.proofs.Patches.{split_runs_as}
use Rattle.dm_converge.proofs.Taking.{same_names, distinct_front, distinct_author, taking_keeps_meaning}
use Rattle.dm_converge.proofs.Converging.{taken_or_kept, plain_runs, plain_fold, plain_root, names_decide_tree}
use Rattle.dm_converge.proofs.Sent.{IsMeantBy, sent_meant}
use Rattle.dm_converge.proofs.Merged.{some_told, held_before, placed_behind, merged_new}
use Rattle.dm_converge.proofs.Begun.{MeansOver, wider, means_agree, begun, HasBegun, in_whole, of_whole, whole_apart, wider_begun, begun_agree}
use Rattle.dm_converge.proofs.Labels.{IsUpTo, runs_agree, builds_agree, Given, give, GivenAll, give_all, built_tree, built_below, root_below, nothing_meant, nothing_up}

-- one patch in turn
single : {x : Patch} {s t : LawfulMap} → InTurn PatchLeads (x ∷ []) s t → PatchLeads x s t
single (step h done) = h

-- one of a list is replaced
middle_here : {X : Type 0} (before : List X) (x : X) (behind : List X) → Contains (before ++ x ∷ behind) x
middle_here before x behind = Contains-append_right before (x ∷ behind) x (here x behind)

replaced_cases : {X : Type 0} (before : List X) (x y : X) (behind : List X) (z : X) → Contains (before ++ y ∷ behind) z → (y ≡ z) ⊎ Contains (before ++ x ∷ behind) z
replaced_cases before x y behind z k = elim (Contains-append_cases before (y ∷ behind) z k) [
  | inl c ↦ inr (Contains-append_left before (x ∷ behind) z c)
  | inr c ↦ elim (one_of y behind c) [ inl e ↦ inl e | inr d ↦ inr (Contains-append_right before (x ∷ behind) z (more x behind d)) ]
]

module _ (kinds : Kinds) (pool : List (List ℕ)) (base : List Patch) (ok : IsRepo base) (one_patch : NamesStandForOneIn kinds pool base) where
  -- the names of the base, and of all repositories
  abbrev names_of : List (List Patch) → List PatchInfo
  names_of [] = infos_of base
  names_of (r ∷ rs) = infos_of r ++ names_of rs

  base_named : (rs : List (List Patch)) (i : PatchInfo) → Holds base i → Contains (names_of rs) i
  base_named [] i h = h
  base_named (r ∷ rs) i h = Contains-append_right (infos_of r) (names_of rs) i (base_named rs i h)

  repo_named : (rs : List (List Patch)) (r : List Patch) (i : PatchInfo) → Contains rs r → Holds r i → Contains (names_of rs) i
  repo_named [] r i k h = absurd (none_of k)
  repo_named (q ∷ rs) r i k h = elim (one_of q rs k) [
    | inl e ↦ Contains-append_left (infos_of q) (names_of rs) i (rw e h)
    | inr c ↦ Contains-append_right (infos_of q) (names_of rs) i (repo_named rs r i c h)
  ]

  -- the names of one repository with more
  on_cases : (repo merged : List Patch) (rest : List PatchInfo) (i : PatchInfo) → Contains (infos_of (repo ++ merged) ++ rest) i → Contains (infos_of repo ++ rest) i ⊎ Holds merged i
  on_cases repo merged rest i k = elim (Contains-append_cases (infos_of (repo ++ merged)) rest i k) [
    | inl c ↦ elim (Contains-append_cases (infos_of repo) (infos_of merged) i (rw (infos_of-append repo merged) at c)) [
      | inl d ↦ inl (Contains-append_left (infos_of repo) rest i d)
      | inr d ↦ inr d
    ]
    | inr c ↦ inl (Contains-append_right (infos_of repo) rest i c)
  ]

  named_cases : (before : List (List Patch)) (repo merged : List Patch) (behind : List (List Patch)) (i : PatchInfo) →
      Contains (names_of (before ++ (repo ++ merged) ∷ behind)) i → Contains (names_of (before ++ repo ∷ behind)) i ⊎ Holds merged i
  named_cases [] repo merged behind i k = on_cases repo merged (names_of behind) i k
  named_cases (r ∷ before) repo merged behind i k = elim (Contains-append_cases (infos_of r) (names_of (before ++ (repo ++ merged) ∷ behind)) i k) [
    | inl c ↦ inl (Contains-append_left (infos_of r) (names_of (before ++ repo ∷ behind)) i c)
    | inr c ↦ elim (named_cases before repo merged behind i c) [ inl d ↦ inl (Contains-append_right (infos_of r) (names_of (before ++ repo ∷ behind)) i d) | inr d ↦ inr d ]
  ]

  named_on : (before : List (List Patch)) (repo merged : List Patch) (behind : List (List Patch)) (i : PatchInfo) →
      Contains (names_of (before ++ repo ∷ behind)) i → Contains (names_of (before ++ (repo ++ merged) ∷ behind)) i
  named_on [] repo merged behind i k = elim (Contains-append_cases (infos_of repo) (names_of behind) i k) [
    | inl c ↦ Contains-append_left (infos_of (repo ++ merged)) (names_of behind) i (rw (infos_of-append repo merged) (Contains-append_left (infos_of repo) (infos_of merged) i c))
    | inr c ↦ Contains-append_right (infos_of (repo ++ merged)) (names_of behind) i c
  ]
  named_on (r ∷ before) repo merged behind i k = elim (Contains-append_cases (infos_of r) (names_of (before ++ repo ∷ behind)) i k) [
    | inl c ↦ Contains-append_left (infos_of r) (names_of (before ++ (repo ++ merged) ∷ behind)) i c
    | inr c ↦ Contains-append_right (infos_of r) (names_of (before ++ (repo ++ merged) ∷ behind)) i (named_on before repo merged behind i c)
  ]

  distinct_new : (text : List ℕ) (b : Contents) → BundleTextIn kinds text b → Distinct (infos_of b.patches)
  distinct_new text b h = h.sections.patches.distinct

  -- one meaning, for the base, for all repositories, for the first patches of each bundle of the pool of which a name is given, as those are that are
  -- held, and for all that was sent
  record Known (repos : List (List Patch)) (sent : List Contents) : Type 0 where
    m : Meaning ℕ
    bound : ℕ
    up : IsUpTo m bound
    base_tree : NodeMap ℕ
    base_builds : Builds m base base_tree
    each : (r : List Patch) → Contains repos r → IsRepo r × ((t : NodeMap ℕ) × Builds m r t)
    given : List PatchInfo
    pooled : (b : Contents) → HasBundleIn kinds pool b → (i : PatchInfo) → Holds b.patches i → Contains (names_of repos) i → Contains given i
    bundles : (b : Contents) → HasBundleIn kinds pool b → (i : PatchInfo) → Holds b.patches i → Contains given i → HasBegun m (names_of repos) given b
    sent_mean : (b : Contents) → Contains sent b → MeansOver m (names_of repos) b × ((i : PatchInfo) → Holds b.patches i → Contains (names_of repos) i)

  known_first : Known [] []
  known_first =
      let f = grows_fold base ok.tree ok.folds in
      let g = give_all base nothing_meant 1 nothing_up ok.distinct (root_of 0) (root_tree ℕ 0) (root_below 1 0 (omega arith)) (plain_root ℕ 0 f.start f.is_root) f.runs in
      record {
        m = g.next;
        bound = g.bound;
        up = g.up;
        base_tree = g.tree;
        base_builds = subst (λ z. Runs g.next base (root_of z) g.tree) (sym g.agrees.root) g.runs;
        each = λ r c. absurd (none_of c);
        given = [];
        pooled = λ b has i h k. absurd (one_patch.beside b i has h k);
        bundles = λ b has i h k. absurd (none_of k);
        sent_mean = λ b c. absurd (none_of c);
      }

  -- a mirror joins
  module _ (repos : List (List Patch)) (sent : List Contents) (k : Known repos sent) where
    after_base : (i : PatchInfo) → Contains (names_of repos) i → Contains (names_of (base ∷ repos)) i
    after_base i c = Contains-append_right (infos_of base) (names_of repos) i c

    joined_pooled : (b : Contents) → HasBundleIn kinds pool b → (i : PatchInfo) → Holds b.patches i → Contains (names_of (base ∷ repos)) i → Contains k.given i
    joined_pooled b has i h c = elim (Contains-append_cases (infos_of base) (names_of repos) i c) [
      | inl d ↦ absurd (one_patch.beside b i has h d)
      | inr d ↦ k.pooled b has i h d
    ]

    known_joined : Known (base ∷ repos) sent
    known_joined = record {
      m = k.m;
      bound = k.bound;
      up = k.up;
      base_tree = k.base_tree;
      base_builds = k.base_builds;
      each = λ r c. elim (one_of base repos c) [ inl e ↦ rw (← e) (ok, (k.base_tree, k.base_builds)) | inr d ↦ k.each r d ];
      given = k.given;
      pooled = joined_pooled;
      bundles = λ b has i h c. wider_begun k.m (names_of repos) (names_of (base ∷ repos)) k.given b after_base (k.bundles b has i h c);
      sent_mean = λ b c. let w = k.sent_mean b c in (wider k.m (names_of repos) (names_of (base ∷ repos)) b after_base w.0, λ i h. after_base i (w.1 i h));
    }

    -- one sends
    known_sent : (repo : List Patch) (b : Contents) → Contains repos repo → IsMeantBy ℕ k.m repo b → Known repos (b ∷ sent)
    known_sent repo b c h = record {
      m = k.m;
      bound = k.bound;
      up = k.up;
      base_tree = k.base_tree;
      base_builds = k.base_builds;
      each = k.each;
      given = k.given;
      pooled = k.pooled;
      bundles = k.bundles;
      sent_mean = λ d e. elim (one_of b sent e) [
        | inl f ↦ rw (← f) ((h.means, λ i g. repo_named repos repo i c (h.before_held i g)), λ i g. repo_named repos repo i c (h.new_held i g))
        | inr f ↦ k.sent_mean d f
      ];
    }

    -- a bundle of the pool is given its meaning
    module _ (repo : List Patch) (mem : Contains repos repo) (b : Contents) (has : HasBundleIn kinds pool b) (policy : Policy) (merged : List Patch) (skipped : ℕ) (g : IsMergeOf repo b policy merged skipped) where
      abbrev IsGiven : Type 0
      IsGiven = (n : Known repos sent) × MeansOver n.m (names_of repos) b × ((i : PatchInfo) → Holds b.patches i → Contains n.given i)

      abbrev cut : IsBundleSplit repo b g.fits.front g.rest g.new
      cut = g.fits.bundle_split

      abbrev front : List Patch
      front = patches g.fits.front

      abbrev whole : IsRepo repo × ((t : NodeMap ℕ) × Builds k.m repo t)
      whole = k.each repo mem

      in_names : (i : PatchInfo) → Holds repo i → Contains (names_of repos) i
      in_names i h = repo_named repos repo i mem h

      in_repo : (i : PatchInfo) → Common repo b i → Holds repo i
      in_repo i h = common_held repo b whole.0.earlier cut.repo_split.prerequisites.knows i h

      of_front : (i : PatchInfo) → Holds front i → Common repo b i
      of_front i h = (front_among (Common repo b) cut.repo_split.split i h).1

      in_front : (i : PatchInfo) → Common repo b i → Holds front i
      in_front i h = front_has (Common repo b) cut.repo_split.split i (rw (patches_placed 0 repo) (in_repo i h)) h

      front_distinct_names : Distinct (infos_of front)
      front_distinct_names = front_distinct (Common repo b) cut.repo_split.split (rw (patches_placed 0 repo) whole.0.distinct)

      front_builds : (u : NodeMap ℕ) × Builds k.m front u
      front_builds =
          let a = split_runs_as ℕ k.m (IsCommon repo b) repo g.fits.front g.rest cut.repo_split.split (root_of k.m.root) whole.1.0 whole.1.1 in
          (a.0, a.1)

      distinct_b : Distinct (infos_of b.patches)
      distinct_b = distinct_new has.0 b has.2

      -- where no name of it is given, it begins with no patch, behind the front
      module _ (none : (i : PatchInfo) → Holds b.patches i → Contains k.given i → ⊥) where
        closed_in_front : (i : PatchInfo) → Closed front b.context i → Holds front i
        closed_in_front i h = in_front i (inl (closed_same ℕ k.m b.context front repo front_builds.1 whole.1.1 (λ j q. in_repo j (inl q)) i h))

        context_closed : (i : PatchInfo) → Common repo b i → Closed front b.context i
        context_closed i (inl h) = closed_same ℕ k.m b.context repo front whole.1.1 front_builds.1 closed_in_front i h
        context_closed i (inr h) = absurd (none i h.0 (k.pooled b has i h.0 (in_names i h.1)))

        begins : HasBegun k.m (names_of repos) k.given b
        begins = record {
          first = [];
          rest = b.patches;
          whole = refl;
          means = (
            record {
              before = front;
              is_context = λ i. (λ h. context_closed i (of_front i h), λ h. closed_in_front i h);
              distinct = rw (append-nil front) front_distinct_names;
              tree = front_builds.0;
              after = front_builds.0;
              builds = front_builds.1;
              runs = done;
            },
            λ i h. in_names i (in_repo i (of_front i h)),
          );
          meant = λ i h. absurd (none_of h);
          new = none;
        }

      -- its other patches are given their meaning
      module _ (w : HasBegun k.m (names_of repos) k.given b) where
        abbrev means : MeansSo k.m (begun b w.first)
        means = w.means.0

        rest_unheld : (i : PatchInfo) → Contains (names_of repos) i → Holds w.rest i → ⊥
        rest_unheld i c h = w.new i h (k.pooled b has i (in_whole b w.first w.rest w.whole i (inr h)) c)

        distinct_rest : Distinct (infos_of w.rest)
        distinct_rest = distinct_right (infos_of w.first) (infos_of w.rest) (rw (w.whole, infos_of-append w.first w.rest) at distinct_b)

        begun_distinct : Distinct (infos_of means.before ++ infos_of w.first)
        begun_distinct = rw (infos_of-append means.before w.first) at means.distinct

        before_apart : (i : PatchInfo) → Holds means.before i → Holds b.patches i → ⊥
        before_apart i h l = elim (of_whole b w.first w.rest w.whole i l) [
          | inl c ↦ distinct_apart (infos_of means.before) (infos_of w.first) begun_distinct i h c
          | inr c ↦ rest_unheld i (w.means.1 i h) c
        ]

        distinct_whole : Distinct (infos_of means.before ++ infos_of b.patches)
        distinct_whole = distinct_on (infos_of means.before) (infos_of b.patches) (distinct_left (infos_of means.before) (infos_of w.first) begun_distinct) distinct_b before_apart

        distinct_author_names : Distinct (infos_of (means.before ++ b.patches))
        distinct_author_names = rw (infos_of-append means.before b.patches) distinct_whole

        -- they are new, as they stand
        placed_rest : (zs : List Placed) × (placed b.patches ≡ placed w.first ++ zs) × (patches zs ≡ w.rest)
        placed_rest = rw w.whole (placed_behind 0 w.first w.rest)

        cut_first : (new : List Placed) × (g.new ≡ new ++ placed_rest.0) × Split PlacedCommutes (IsHeld repo) (placed w.first) cut.held new
        cut_first = held_before repo (placed w.first) placed_rest.0 (rw placed_rest.1 at cut.split) (λ i h l. rest_unheld i (in_names i l) (rw placed_rest.2 at h))

        new_parts : patches g.new ≡ patches cut_first.0 ++ w.rest
        new_parts = ap patches cut_first.1 ∙ (map-append (λ x. x.1) cut_first.0 placed_rest.0 ∙ ap (λ l. patches cut_first.0 ++ l) placed_rest.2)

        -- and lead on from where the first ones lead
        leads_on : (mid : LawfulMap) × (plain means.after ≡ mid.map) × InTurn PatchLeads w.rest mid g.fits.fitted
        leads_on =
            let h = split_runs_as ℕ k.m (IsHeld repo) w.first cut.held cut_first.0 cut_first.2 means.tree means.after means.runs in
            let e : front_builds.0 ≡ h.0 = names_make_the_tree ℕ k.m k.up.once front (means.before ++ patches cut.held) front_builds.0 h.0
            (distinct_front ℕ k.m repo b whole.0 means.before means.is_context distinct_author_names means.builds whole.1.1 cut)
            (distinct_author ℕ k.m repo b whole.0 means.before means.is_context distinct_author_names means.builds whole.1.1 cut)
            (same_names ℕ k.m repo b whole.0 means.before means.is_context distinct_author_names means.builds whole.1.1 cut)
            front_builds.1 (runs_on means.builds h.1) in
            let p = runs_part (patches cut_first.0) {ys = w.rest} (rw new_parts at (runs_lead g.fits.leads)) in
            let from : plain h.0 ≡ g.fits.base.map = rw (← e) (plain_fold ℕ k.m front front_builds.0 g.fits.base front_builds.1 (grows_fold front g.fits.base g.fits.folds)) in
            (p.0, plain_runs ℕ k.m {y = p.0} h.2 p.1 from, p.2)

        first_builds : Builds k.m (means.before ++ w.first) means.after
        first_builds = runs_on means.builds means.runs

        module _ (n : GivenAll k.m w.rest means.after g.fits.fitted) where
          abbrev all_given : List PatchInfo
          all_given = infos_of w.rest ++ k.given

          builds_still : (xs : List Patch) (t : NodeMap ℕ) → ((i : PatchInfo) → Holds xs i → Contains (names_of repos) i) → Builds k.m xs t → Builds n.next xs t
          builds_still xs t f h = builds_agree n.agrees xs (λ i l o. rest_unheld i (f i l) o) h

          author_builds : Builds n.next means.before means.tree
          author_builds = builds_still means.before means.tree w.means.1 means.builds

          bundle_runs : Runs n.next b.patches means.tree n.tree
          bundle_runs = subst (λ z. Runs n.next z means.tree n.tree) (sym w.whole) (runs_on (runs_agree n.agrees w.first (whole_apart b w.first w.rest w.whole distinct_b) means.runs) n.runs)

          bundle_means : MeansOver n.next (names_of repos) b
          bundle_means = (
            record {
              before = means.before;
              is_context = means.is_context;
              distinct = distinct_author_names;
              tree = means.tree;
              after = n.tree;
              builds = author_builds;
              runs = bundle_runs;
            },
            w.means.1,
          )

          in_later : (i : PatchInfo) → Holds b.patches i → Contains all_given i
          in_later i h = elim (of_whole b w.first w.rest w.whole i h) [
            | inl c ↦ Contains-append_right (infos_of w.rest) k.given i (w.meant i c)
            | inr c ↦ Contains-append_left (infos_of w.rest) k.given i c
          ]

          -- a bundle of the pool with a name of theirs begins alike
          module _ (d : Contents) (is : HasBundleIn kinds pool d) (x : PatchInfo) (in_d : Holds d.patches x) (in_rest : Holds w.rest x) where
            abbrev alike : BeginAlike b d
            alike = one_patch.among b d x has is (in_whole b w.first w.rest w.whole x (inr in_rest)) in_d

            distinct_d : Distinct (infos_of d.patches)
            distinct_d = distinct_new is.0 d is.2

            not_in_b : (j : PatchInfo) → Holds alike.other_rest j → Holds b.patches j → ⊥
            not_in_b j l h = elim (of_whole b alike.shared alike.rest alike.is_one j h) [
              | inl c ↦ whole_apart d alike.shared alike.other_rest alike.is_other distinct_d j c l
              | inr c ↦ alike.apart j c l
            ]

            x_shared : Holds alike.shared x
            x_shared = elim (of_whole d alike.shared alike.other_rest alike.is_other x in_d) [
              | inl c ↦ c
              | inr c ↦ absurd (not_in_b x c (in_whole b w.first w.rest w.whole x (inr in_rest)))
            ]

            others_new : (j : PatchInfo) → Holds alike.other_rest j → Contains k.given j → ⊥
            others_new j l o =
                let v = k.bundles d is j (in_whole d alike.shared alike.other_rest alike.is_other j (inr l)) o in
                let same = ap infos_of (sym alike.is_other ∙ v.whole) in
                elim (of_whole d v.first v.rest v.whole j (in_whole d alike.shared alike.other_rest alike.is_other j (inr l))) [
                  | inl c ↦ elim (beginnings (infos_of alike.shared) (infos_of alike.other_rest) (infos_of v.first) (infos_of v.rest) (rw (infos_of-append alike.shared alike.other_rest, infos_of-append v.first v.rest) at same)) [
                    | inl f ↦ w.new x in_rest (v.meant x (f x x_shared))
                    | inr f ↦ whole_apart d alike.shared alike.other_rest alike.is_other distinct_d j (f j c) l
                  ]
                  | inr c ↦ v.new j c o
                ]

            shared_in_b : (j : PatchInfo) → Holds alike.shared j → Holds b.patches j
            shared_in_b j h = in_whole b alike.shared alike.rest alike.is_one j (inl h)

            shared_distinct : Distinct (infos_of (means.before ++ alike.shared))
            shared_distinct = rw (infos_of-append means.before alike.shared)
                (distinct_part (infos_of means.before) (infos_of b.patches) (infos_of alike.shared) distinct_whole
                (distinct_left (infos_of alike.shared) (infos_of alike.rest) (rw (alike.is_one, infos_of-append alike.shared alike.rest) at distinct_b)) shared_in_b)

            alike_begun : HasBegun n.next (names_of repos) all_given d
            alike_begun =
                let p = runs_part alike.shared {ys = alike.rest} (subst (λ z. Runs n.next z means.tree n.tree) alike.is_one bundle_runs) in
                record {
                  first = alike.shared;
                  rest = alike.other_rest;
                  whole = alike.is_other;
                  means = (
                    record {
                      before = means.before;
                      is_context = λ i. (
                        λ h. closed_more means.before b.context d.context (λ j. (alike.context j).0) i ((means.is_context i).0 h),
                        λ h. (means.is_context i).1 (closed_more means.before d.context b.context (λ j. (alike.context j).1) i h),
                      );
                      distinct = shared_distinct;
                      tree = means.tree;
                      after = p.0;
                      builds = author_builds;
                      runs = p.1;
                    },
                    w.means.1,
                  );
                  meant = λ j h. in_later j (shared_in_b j h);
                  new = λ j h c. elim (Contains-append_cases (infos_of w.rest) k.given j c) [
                    | inl o ↦ not_in_b j h (in_whole b w.first w.rest w.whole j (inr o))
                    | inr o ↦ others_new j h o
                  ];
                }

          -- any other begins as before
          other_begun : (d : Contents) → HasBegun k.m (names_of repos) k.given d → ((i : PatchInfo) → Holds d.patches i → Holds w.rest i → ⊥) → HasBegun n.next (names_of repos) all_given d
          other_begun d v apart = record {
            first = v.first;
            rest = v.rest;
            whole = v.whole;
            means = means_agree n.agrees (names_of repos) (begun d v.first) rest_unheld (λ j h. apart j (in_whole d v.first v.rest v.whole j (inl h))) v.means;
            meant = λ j h. Contains-append_right (infos_of w.rest) k.given j (v.meant j h);
            new = λ j h c. elim (Contains-append_cases (infos_of w.rest) k.given j c) [
              | inl o ↦ apart j (in_whole d v.first v.rest v.whole j (inr h)) o
              | inr o ↦ v.new j h o
            ];
          }

          later_begun : (d : Contents) → HasBundleIn kinds pool d → (i : PatchInfo) → Holds d.patches i → Contains all_given i → HasBegun n.next (names_of repos) all_given d
          later_begun d is i h c = elim (some_told (infos_of d.patches) (infos_of w.rest)) [
            | inl r ↦ alike_begun d is r.0 r.1 r.2
            | inr apart ↦ other_begun d (k.bundles d is i h (elim (Contains-append_cases (infos_of w.rest) k.given i c) [ inl o ↦ absurd (apart i h o) | inr o ↦ o ])) apart
          ]

          given_all : IsGiven
          given_all = (
            record {
              m = n.next;
              bound = n.bound;
              up = n.up;
              base_tree = k.base_tree;
              base_builds = builds_still base k.base_tree (base_named repos) k.base_builds;
              each = λ r q. let v = k.each r q in (v.0, (v.1.0, builds_still r v.1.0 (λ i h. repo_named repos r i q h) v.1.1));
              given = all_given;
              pooled = λ d is i h c. Contains-append_right (infos_of w.rest) k.given i (k.pooled d is i h c);
              bundles = later_begun;
              sent_mean = λ d q. let v = k.sent_mean d q in (means_agree n.agrees (names_of repos) d rest_unheld (λ j h. rest_unheld j (v.1 j h)) v.0, v.1);
            },
            bundle_means,
            in_later,
          )

        given_on : IsGiven
        given_on = given_all (give_all w.rest k.m k.bound k.up distinct_rest means.after
            (built_tree k.m k.bound k.up (means.before ++ w.first) means.after means.distinct first_builds)
            (built_below k.m k.bound k.up (means.before ++ w.first) means.after means.distinct first_builds)
            leads_on.1 leads_on.2)

      meaning_given : IsGiven
      meaning_given = elim (some_told (infos_of b.patches) k.given) [ inl r ↦ given_on (k.bundles b has r.0 r.1 r.2) | inr none ↦ given_on (begins none) ]

  -- a bundle that means so is merged
  module _ (before : List (List Patch)) (repo : List Patch) (behind : List (List Patch)) (sent : List Contents) (k : Known (before ++ repo ∷ behind) sent)
      (b : Contents) (distinct : Distinct (infos_of b.patches)) (policy : Policy) (merged : List Patch) (skipped : ℕ) (g : IsMergeOf repo b policy merged skipped)
      (means : MeansSo k.m b)
      (meant : (d : Contents) → HasBundleIn kinds pool d → (i : PatchInfo) → Holds d.patches i → Holds b.patches i → Contains k.given i) where
    abbrev was : List (List Patch)
    was = before ++ repo ∷ behind

    abbrev now : List (List Patch)
    now = before ++ (repo ++ merged) ∷ behind

    still : (i : PatchInfo) → Contains (names_of was) i → Contains (names_of now) i
    still i c = named_on before repo merged behind i c

    merged_builds : IsRepo (repo ++ merged) × ((t : NodeMap ℕ) × Builds k.m (repo ++ merged) t)
    merged_builds =
        let w = k.each repo (middle_here before repo behind) in
        (merge_is_repo repo b policy merged skipped w.0 distinct g, taking_keeps_meaning ℕ k.m k.up.once repo b policy merged skipped w.0 means g w.1.0 w.1.1)

    merged_pooled : (d : Contents) → HasBundleIn kinds pool d → (i : PatchInfo) → Holds d.patches i → Contains (names_of now) i → Contains k.given i
    merged_pooled d has i h c = elim (named_cases before repo merged behind i c) [
      | inl r ↦ k.pooled d has i h r
      | inr r ↦ meant d has i h (merged_new repo b policy merged skipped distinct g i r)
    ]

    known_merged : Known now sent
    known_merged = record {
      m = k.m;
      bound = k.bound;
      up = k.up;
      base_tree = k.base_tree;
      base_builds = k.base_builds;
      each = λ r c. elim (replaced_cases before repo (repo ++ merged) behind r c) [ inl e ↦ rw (← e) merged_builds | inr d ↦ k.each r d ];
      given = k.given;
      pooled = merged_pooled;
      bundles = λ d has i h c. wider_begun k.m (names_of was) (names_of now) k.given d still (k.bundles d has i h c);
      sent_mean = λ d c. let w = k.sent_mean d c in (wider k.m (names_of was) (names_of now) d still w.0, λ i h. still i (w.1 i h));
    }

  -- a mirror records a patch of a new name
  module _ (before : List (List Patch)) (repo : List Patch) (behind : List (List Patch)) (sent : List Contents) (k : Known (before ++ repo ∷ behind) sent)
      (x : Patch) (new : IsNew kinds pool base (before ++ repo ∷ behind) x.info) (valid : IsRepo (repo ++ x ∷ [])) where
    abbrev all : List (List Patch)
    all = before ++ repo ∷ behind

    abbrev later : List (List Patch)
    later = before ++ (repo ++ x ∷ []) ∷ behind

    abbrev its : IsRepo repo × ((t : NodeMap ℕ) × Builds k.m repo t)
    its = k.each repo (middle_here before repo behind)

    named_where : (rs : List (List Patch)) (i : PatchInfo) → Contains (names_of rs) i → (r : List Patch) × Contains (base ∷ rs) r × Holds r i
    named_where [] i c = (base, here base [], c)
    named_where (r ∷ rs) i c = elim (Contains-append_cases (infos_of r) (names_of rs) i c) [
      | inl d ↦ (r, more base (r ∷ rs) (here r rs), d)
      | inr d ↦ let w = named_where rs i d in (w.0, elim (one_of base rs w.1) [ inl e ↦ rw e (here w.0 (r ∷ rs)) | inr f ↦ more base (r ∷ rs) (more r rs f) ], w.2)
    ]

    apart : (i : PatchInfo) → Contains (names_of all) i → Contains (x.info ∷ []) i → ⊥
    apart i c d = elim (one_of x.info [] d) [
      | inl e ↦ let w = named_where all i c in new.unheld w.0 w.1 (subst (λ z. Holds w.0 z) (sym e) w.2)
      | inr n ↦ absurd (none_of n)
    ]

    unpooled : (d : Contents) → HasBundleIn kinds pool d → (i : PatchInfo) → Holds d.patches i → Contains (x.info ∷ []) i → ⊥
    unpooled d has i h c = elim (one_of x.info [] c) [ inl e ↦ new.unpooled d has (subst (λ z. Holds d.patches z) (sym e) h) | inr n ↦ absurd (none_of n) ]

    module _ (u : LawfulMap) (g : Given k.m x its.1.0 u) where
      builds_recorded : (xs : List Patch) (t : NodeMap ℕ) → ((i : PatchInfo) → Holds xs i → Contains (names_of all) i) → Builds k.m xs t → Builds g.next xs t
      builds_recorded xs t f h = builds_agree g.agrees xs (λ i l c. apart i (f i l) c) h

      each_recorded : (r : List Patch) → Contains all r → IsRepo r × ((t : NodeMap ℕ) × Builds g.next r t)
      each_recorded r c = let w = k.each r c in (w.0, (w.1.0, builds_recorded r w.1.0 (λ i h. repo_named all r i c h) w.1.1))

      this_recorded : IsRepo (repo ++ x ∷ []) × ((t : NodeMap ℕ) × Builds g.next (repo ++ x ∷ []) t)
      this_recorded =
          let still = builds_recorded repo its.1.0 (λ i h. repo_named all repo i (middle_here before repo behind) h) its.1.1 in
          (valid, (g.tree, runs_on still (step g.leads done)))

      known_recorded : Known later sent
      known_recorded = record {
        m = g.next;
        bound = g.bound;
        up = g.up;
        base_tree = k.base_tree;
        base_builds = builds_recorded base k.base_tree (base_named all) k.base_builds;
        each = λ r c. elim (replaced_cases before repo (repo ++ x ∷ []) behind r c) [ inl e ↦ rw (← e) this_recorded | inr d ↦ each_recorded r d ];
        given = k.given;
        pooled = λ d has i h c. elim (named_cases before repo (x ∷ []) behind i c) [ inl q ↦ k.pooled d has i h q | inr q ↦ absurd (unpooled d has i h q) ];
        bundles = λ d has i h c. wider_begun g.next (names_of all) (names_of later) k.given d (λ j n. named_on before repo (x ∷ []) behind j n)
            (begun_agree g.agrees (names_of all) k.given d apart (unpooled d has) (k.bundles d has i h c));
        sent_mean = λ d c. let w = k.sent_mean d c in (
          wider g.next (names_of all) (names_of later) d (λ j n. named_on before repo (x ∷ []) behind j n) (means_agree g.agrees (names_of all) d apart (λ j h q. apart j (w.1 j h) q) w.0),
          λ i h. named_on before repo (x ∷ []) behind i (w.1 i h),
        );
      }

    recorded : Known later sent
    recorded =
        let f = grows_fold (repo ++ x ∷ []) valid.tree valid.folds in
        let r = runs_part repo {ys = x ∷ []} f.runs in
        let t = its.1.0 in
        let same : plain t ≡ r.0.map = plain_fold ℕ k.m repo t r.0 its.1.1 (record { start = f.start; is_root = f.is_root; runs = r.1 }) in
        known_recorded valid.tree (give k.m k.bound k.up x t r.0 valid.tree
        (built_tree k.m k.bound k.up repo t its.0.distinct its.1.1) (built_below k.m k.bound k.up repo t its.0.distinct its.1.1) same (single r.2))

  -- a text is taken
  known_taken : (before : List (List Patch)) (repo : List Patch) (behind : List (List Patch)) (sent : List Contents) → Known (before ++ repo ∷ behind) sent →
      (text : List ℕ) → Contains pool text ⊎ StandsForSent kinds sent text → (b : Contents) → BundleTextIn kinds text b → (policy : Policy) (merged : List Patch) (skipped : ℕ) → IsMergeOf repo b policy merged skipped →
      Known (before ++ (repo ++ merged) ∷ behind) sent
  known_taken before repo behind sent k text (inl p) b stands policy merged skipped g =
      let has : HasBundleIn kinds pool b = (text, p, stands) in
      let w = meaning_given (before ++ repo ∷ behind) sent k repo (middle_here before repo behind) b has policy merged skipped g in
      known_merged before repo behind sent w.0 b (distinct_new text b stands) policy merged skipped g w.1.0
      (λ d is i h l. w.2 i l)
  known_taken before repo behind sent k text (inr p) b stands policy merged skipped g =
      let e : p.0 ≡ b = one_bundle kinds text p.0 b p.2 stands in
      let c : Contains sent b = rw e at p.1 in
      let w = k.sent_mean b c in
      known_merged before repo behind sent k b (distinct_new text b stands) policy merged skipped g w.0.0 (λ d is i h l. k.pooled d is i h (w.1 i l))

  known : {repos : List (List Patch)} {sent : List Contents} → Network kinds pool base repos sent → Known repos sent
  known nobody = known_first
  known (joins {repos} {sent} n) = known_joined repos sent (known n)
  known (takes before repo behind n p few (malformed fault at e same)) = rw same (known n)
  known (takes before repo behind n p few (no_memory e same)) = rw same (known n)
  known (takes before repo behind {after} {sent} {limits} {text} {policy} {verdict} n p few (bundle b r t)) =
      let k = known n in
      let stands = among_stands limits.kinds kinds text b few r.stands in
      taken_or_kept (λ z. Known (before ++ z ∷ behind) sent) repo b policy verdict after k
      (λ merged skipped g. known_taken before repo behind sent k text p b stands policy merged skipped g)
      t
  known (records before repo behind x {sent} n new valid) = recorded before repo behind sent (known n) x new valid
  known (sends {repos} {repo} {sent} {b} n c h) =
      let k = known n in
      let w = k.each repo c in
      known_sent repos sent k repo b c (sent_meant ℕ k.m repo w.1.0 w.0 w.1.1 b h)

pub networks_converge : laws.NetworksConverge
networks_converge kinds pool base ok one_patch repos sent n one other c d =
    let k = known kinds pool base ok one_patch n in names_decide_tree ℕ k.m k.up.once one other (k.each one c) (k.each other d)

-- two mirrors are such a network
comes_along : (kinds : Kinds) (pool : List (List ℕ)) (base : List Patch) (before behind : List (List Patch)) {sent : List Contents} {repo : List Patch} → Network kinds pool base (before ++ base ∷ behind) sent →
    ComesOfIn kinds pool base repo → Network kinds pool base (before ++ repo ∷ behind) sent
comes_along kinds pool base before behind n as_it_was = n
comes_along kinds pool base before behind n (took {repo} c p few t) = takes before repo behind (comes_along kinds pool base before behind n c) (inl p) few t

pub pools_converge : laws.PoolsConverge
pools_converge kinds pool base ok one_patch one other h k =
    let n = comes_along kinds pool base (one ∷ []) [] (comes_along kinds pool base [] (base ∷ []) (joins (joins nobody)) h) k in
    networks_converge kinds pool base ok one_patch (one ∷ other ∷ []) [] n one other (here one (other ∷ [])) (more one (other ∷ []) (here other []))

-- texts that are taken in turn
pub comes_each : (pool : List (List ℕ)) (base repo : List Patch) (texts : List (List ℕ)) (policy : Policy) (verdicts : List Verdict) (after : List Patch) →
    ((text : List ℕ) → Contains texts text → Contains pool text) → ComesOfIn these.Six pool base repo → TakesEach repo texts policy verdicts after → ComesOfIn these.Six pool base after
comes_each pool base repo [] policy [] after f c h = rw h c
comes_each pool base repo [] policy (v ∷ vs) after f c h = absurd h
comes_each pool base repo (x ∷ xs) policy [] after f c h = absurd h
comes_each pool base repo (x ∷ xs) policy (v ∷ vs) after f c (next, h, r) =
    comes_each pool base next xs policy vs after (λ y d. f y (more x xs d)) (took c (f x (here x xs)) tt h) r

pub taken_texts_converge : laws.TakenTextsConverge
taken_texts_converge base texts others policy other_policy verdicts other_verdicts one other ok one_patch h k =
    let pool = texts ++ others in
    pools_converge these.Six pool base ok one_patch one other
    (comes_each pool base base texts policy verdicts one (λ y c. Contains-append_left texts others y c) as_it_was h)
    (comes_each pool base base others other_policy other_verdicts other (λ y c. Contains-append_right texts others y c) as_it_was k)
