-- What is merged with a list is merged so too with the same list and patches that stand aside.
use Rattle.std.proofs.Common.{◌≡◌, ℕ, List, [], ◌∷◌, ◌++◌, inl, inr, refl, subst}
use Rattle.std.specs.List.{All, Contains}
use Rattle.std.proofs.lemmas.List.Elements.{All-nil, All-cons, All-head, All-tail, Contains-append_left, Contains-append_right}
use Rattle.dm_tree.specs.Paths.{Path}
use Rattle.dm_prim.proofs.TouchLemmas.{holds_of, holds_of_all, all_with}
use Rattle.dm_repo.specs.Aside.{LeavesAside, IsRestOf}
use Rattle.dm_repo.specs.Aside as asides
use Rattle.dm_repo.specs.Merging.{MergeRectangle, bare, over, MergePastStops, MergeStops}
use Rattle.dm_repo.specs.Sifting.{MergesOver, MergesNowhere, Sifts, ends, merges, skips, MergesUnder, ConflictsUnder}
use Rattle.dm_repo.specs.declared.policy.Policy.{Policy}
use Rattle.dm_repo.specs.declared.policy.Policy.TheVariants.{Refuse, Skip}
use Rattle.dm_repo.specs.Squares.{Placed, PlacedCommutes, PlacedMerges}
use Rattle.dm_repo.proofs.Members.{here}
use Rattle.dm_repo.proofs.Placed.{merged_one}
use Rattle.dm_repo.proofs.Staircases.{strip_one}
use Rattle.dm_repo.proofs.NearSquares.{cells_keep, lists_keep, Near, near_square, near_merge}
use Rattle.dm_repo.proofs.AsideSquares.{row_unchanged, Far, aside_merges}
use Rattle.dm_repo.proofs.AsideSplits.{cut, from_aside, to_aside}

pub record MergesAll (ps : List Path) (full new new' rest' : List Placed) : Type 0 where
  pub full' : List Placed
  pub merge : MergeRectangle PlacedMerges full new new' full'
  pub leaves : LeavesAside ps full' rest'
  pub near : All (Near ps) new'

pub record MergesRest (ps : List Path) (rest new new' full' : List Placed) : Type 0 where
  pub rest' : List Placed
  pub merge : MergeRectangle PlacedMerges rest new new' rest'
  pub leaves : LeavesAside ps full' rest'

module _ (ps : List Path) where
  pub merge_all : {full rest new new' rest' : List Placed} → LeavesAside ps full rest → All (Near ps) new → MergeRectangle PlacedMerges rest new new' rest' → MergesAll ps full new new' rest'
  merge_all asides.none k bare = record { full' = []; merge = bare; leaves = asides.none; near = k }
  merge_all (asides.near n g) k (over {r'} s m) =
      let b = cells_keep Placed PlacedMerges (Near ps) (Near ps) (near_merge ps) s n k in
      let a = merge_all g b.0 m in
      record { full' = r' ∷ a.full'; merge = over s a.merge; leaves = asides.near b.1 a.leaves; near = a.near }
  merge_all {new} (asides.aside {x} d g) k m =
      let a = merge_all g k m in
      record { full' = x ∷ a.full'; merge = over (row_unchanged Placed PlacedMerges (Far ps) (Near ps) (aside_merges ps) x new d k) a.merge; leaves = asides.aside d a.leaves; near = a.near }

  -- and the other way
  pub merge_rest : {full rest new new' full' : List Placed} → LeavesAside ps full rest → All (Near ps) new → MergeRectangle PlacedMerges full new new' full' → MergesRest ps rest new new' full'
  merge_rest asides.none k bare = record { rest' = []; merge = bare; leaves = asides.none }
  merge_rest (asides.near n g) k (over {r'} s m) =
      let b = cells_keep Placed PlacedMerges (Near ps) (Near ps) (near_merge ps) s n k in
      let a = merge_rest g b.0 m in
      record { rest' = r' ∷ a.rest'; merge = over s a.merge; leaves = asides.near b.1 a.leaves }
  merge_rest {new} (asides.aside {x} d g) k (over {r'} {between} s m) =
      let e : (between ≡ new) × (r' ≡ x) = strip_one Placed PlacedMerges merged_one refl refl s (row_unchanged Placed PlacedMerges (Far ps) (Near ps) (aside_merges ps) x new d k) in
      let a = merge_rest g k (rw e.0 at m) in
      record { rest' = a.rest'; merge = a.merge; leaves = asides.aside (rw e.1 d) a.leaves }

  alone : (n : Placed) → Near ps n → All (Near ps) (n ∷ [])
  alone n h = All-cons (Near ps) n [] h (All-nil (Near ps))

  -- where n is stopped
  pub past_stops_all : {full rest : List Placed} {n r : Placed} → LeavesAside ps full rest → Near ps n → MergePastStops PlacedMerges rest n r → MergePastStops PlacedMerges full n r
  past_stops_all {n} g k s =
      let c = cut s.near s.at (from_aside g) in
      let a = merge_all (to_aside c.far_leaves) (alone n k) s.joined in
      record { near = c.before; near' = a.full'; far = c.after; n1 = s.n1; at = c.at; joined = a.merge; stuck = s.stuck }

  pub merge_stops_all : {full rest new : List Placed} {n r : Placed} → LeavesAside ps full rest → All (Near ps) new → MergeStops PlacedMerges rest new n r → MergeStops PlacedMerges full new n r
  merge_stops_all {n} g k s =
      let l : All (Near ps) (s.before ++ n ∷ s.after) = rw s.at at k in
      let before = holds_of_all (Near ps) s.before (λ x c. holds_of (Near ps) (s.before ++ n ∷ s.after) l (Contains-append_left s.before (n ∷ s.after) x c)) in
      let a = merge_all g before s.so_far in
      let h = holds_of (Near ps) (s.before ++ n ∷ s.after) l (Contains-append_right s.before (n ∷ s.after) n (here n s.after)) in
      record { before = s.before; after = s.after; before' = s.before'; rest1 = a.full'; at = s.at; so_far = a.merge; stops = past_stops_all a.leaves h s.stops }

pub record MergesOverAll (ps : List Path) (skipped full : List Placed) (n n' : Placed) (skipped' rest' : List Placed) : Type 0 where
  pub full' : List Placed
  pub merges_over : MergesOver skipped full n n' skipped' full'
  pub leaves : LeavesAside ps full' rest'
  pub near : All (Near ps) skipped'

module _ (ps : List Path) where
  over_all : {skipped full rest skipped' rest' : List Placed} {n n' : Placed} → LeavesAside ps full rest → All (Near ps) skipped → Near ps n →
      MergesOver skipped rest n n' skipped' rest' → MergesOverAll ps skipped full n n' skipped' rest'
  over_all {n} g k h o =
      let p = lists_keep Placed PlacedCommutes (Near ps) (Near ps) (near_square ps) o.passes_skipped k (alone ps n h) in
      let a = merge_all ps g p.0 o.merges_past in
      record { full' = a.full'; merges_over = record { between = o.between; passes_skipped = o.passes_skipped; merges_past = a.merge }; leaves = a.leaves; near = p.1 }

  nowhere_all : {skipped full rest : List Placed} {n : Placed} → LeavesAside ps full rest → All (Near ps) skipped → Near ps n → MergesNowhere skipped rest n → MergesNowhere skipped full n
  nowhere_all {n} g k h stuck = λ n' skipped' full' o.
      let p = lists_keep Placed PlacedCommutes (Near ps) (Near ps) (near_square ps) o.passes_skipped k (alone ps n h) in
      let a = merge_rest ps g p.0 o.merges_past in
      stuck n' skipped' a.rest' (record { between = o.between; passes_skipped = o.passes_skipped; merges_past = a.merge })

  pub sift_all : {skipped full rest new merged left : List Placed} → LeavesAside ps full rest → All (Near ps) skipped → All (Near ps) new → Sifts skipped rest new merged left → Sifts skipped full new merged left
  sift_all g k h ends = ends
  sift_all g k h (merges {n} {new} o s) =
      let a = over_all g k (All-head (Near ps) n new h) o in
      merges a.merges_over (sift_all a.leaves a.near (All-tail (Near ps) n new h) s)
  sift_all g k h (skips {n} {skipped} {new} stuck s) =
      let i = All-head (Near ps) n new h in
      skips (nowhere_all g k i stuck) (sift_all g ((all_with (Near ps) skipped n).1 (k, i)) (All-tail (Near ps) n new h) s)

  -- under a policy
  pub under_all : (policy : Policy) {full rest : List Placed} (new merged : List Placed) (count : ℕ) → LeavesAside ps full rest → All (Near ps) new → MergesUnder policy rest new merged count → MergesUnder policy full new merged count
  under_all Refuse new merged count g k (m, e) = let a = merge_all ps g k m.1 in ((a.full', a.merge), e)
  under_all Skip new merged count g k (some, (left, s, e)) = (some, (left, sift_all g (All-nil (Near ps)) k s, e))

  pub conflicts_all : (policy : Policy) {full rest : List Placed} (new : List Placed) (n r : Placed) → LeavesAside ps full rest → All (Near ps) new → ConflictsUnder policy rest new n r → ConflictsUnder policy full new n r
  conflicts_all Refuse new n r g k s = merge_stops_all ps g k s
  conflicts_all Skip new n r g k (after, left, e, s, t) =
      let h : All (Near ps) (n ∷ after) = rw e at k in
      (after, left, e, past_stops_all ps g (All-head (Near ps) n after h) s, sift_all g (All-nil (Near ps)) k t)

-- as contracts tell it
pub under_of : (policy : Policy) (full rest new merged : List Placed) (count : ℕ) → IsRestOf full rest new → MergesUnder policy rest new merged count → MergesUnder policy full new merged count
under_of policy full rest new merged count (inl e) m = subst (λ (l : List Placed). MergesUnder policy l new merged count) e m
under_of policy full rest new merged count (inr (ps, g, k)) m = under_all ps policy new merged count g k m

pub conflicts_of : (policy : Policy) (full rest new : List Placed) (n r : Placed) → IsRestOf full rest new → ConflictsUnder policy rest new n r → ConflictsUnder policy full new n r
conflicts_of policy full rest new n r (inl e) s = subst (λ (l : List Placed). ConflictsUnder policy l new n r) e s
conflicts_of policy full rest new n r (inr (ps, g, k)) s = conflicts_all ps policy new n r g k s
