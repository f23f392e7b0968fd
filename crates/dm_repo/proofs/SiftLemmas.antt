-- Sifting: one answer, what is merged applies, and what it has in common with a merge.
use Rattle.std.proofs.Common.{◌≡◌, ◌≢◌, ◌+◌, ℕ, suc, arith, length-append, List, [], ◌∷◌, ◌++◌, length, drop, get_or, inl, inr, refl, sym, ap, ap₂, ◌∙◌, append_assoc, append-nil}
use Rattle.dm_info.specs.PatchInfo.{PatchInfo}
use Rattle.dm_prim.specs.InTurn.{InTurn, done, step}
use Rattle.dm_prim.specs.Rectangles.{CellRow, none, next, empty, row}
use Rattle.dm_prim.specs.Primitives.{LawfulMap}
use Rattle.dm_prim.proofs.RectangleLemmas.{rectangle_one, rectangle_runs}
use Rattle.dm_named.specs.Patches.{Patch}
use Rattle.dm_bundle.specs.Patches.{infos_of}
use Rattle.dm_bundle.specs.Bundles.{Contents}
use Rattle.dm_repo.specs.declared.policy.Policy.{Policy}
use Rattle.dm_repo.specs.declared.policy.Policy.TheVariants.{Refuse, Skip}
use Rattle.dm_repo.specs.Staircases.{Passes, PassStops, Split, nothing, stays, yields}
use Rattle.dm_repo.specs.Merging.{MergeRectangle, bare, over, MergesPast, MergePastStops}
use Rattle.dm_repo.specs.Sifting.{MergesOver, MergesNowhere, Sifts, ends, merges, skips, MergesUnder, ConflictsUnder}
use Rattle.dm_repo.specs.Squares.{Placed, patches, PlacedCommutes, PlacedMerges}
use Rattle.dm_repo.specs.Repositories.{Holds}
use Rattle.dm_repo.specs.Weighing.{IsHeld, IsBundleSplit, Fits}
use Rattle.dm_repo.specs.Laws.{PoliciesAgree, EachIsMergedOrSkipped}
use Rattle.dm_repo.proofs.Members.{one_of, none_of}
use Rattle.dm_repo.proofs.Placed.{PlacedLeads, placed_one, placed_runs, merged_one, merged_runs, patches_placed}
use Rattle.dm_repo.proofs.Staircases.{runs_on, rect_runs, rect_one, rect_part, single, pass_stops, join_stops, merge_stops, merge_narrow, merge_along}
use Rattle.dm_repo.proofs.Firsts.{join_stops_one, merge_stops_one}

cons_one : {x y : Placed} {xs ys : List Placed} → x ∷ xs ≡ y ∷ ys → (x ≡ y) × (xs ≡ ys)
cons_one e = (cc, cc)

-- a patch is merged over others in one way
over_one : {skipped rest : List Placed} {n n1 n2 : Placed} {s1 s2 r1 r2 : List Placed} →
    MergesOver skipped rest n n1 s1 r1 → MergesOver skipped rest n n2 s2 r2 → (n1 ≡ n2) × (s1 ≡ s2) × (r1 ≡ r2)
over_one p q =
    let e = rectangle_one Placed PlacedCommutes placed_one p.passes_skipped q.passes_skipped in
    let f = rect_one Placed PlacedMerges merged_one e.0 p.merges_past q.merges_past in
    ((cons_one f.0).0, e.1, f.1)

-- patches are sifted in one way
pub sift_one : {skipped skipped2 rest rest2 new merged merged2 left left2 : List Placed} → skipped ≡ skipped2 → rest ≡ rest2 →
    Sifts skipped rest new merged left → Sifts skipped2 rest2 new merged2 left2 → (merged ≡ merged2) × (left ≡ left2)
sift_one e f ends ends = (refl, e)
sift_one e f (merges o g) (merges p h) =
    let a = over_one o (rw (← e, ← f) at p) in
    let t = sift_one a.1 a.2 g h in (ap₂ (λ x xs. x ∷ xs) a.0 t.0, t.1)
sift_one e f (merges {n'} {skipped'} {rest'} o g) (skips stuck h) = absurd (stuck n' skipped' rest' (rw (e, f) at o))
sift_one e f (skips stuck g) (merges {n'} {skipped'} {rest'} o h) = absurd (stuck n' skipped' rest' (rw (← e, ← f) at o))
sift_one e f (skips {n} stuck g) (skips bound h) = sift_one (ap (λ l. l ++ n ∷ []) e) f g h

-- the first of new, which is not merged, is stopped by one patch
conflict_one : {rest new after after1 : List Placed} {n r n1 r1 : Placed} → new ≡ n ∷ after → new ≡ n1 ∷ after1 →
    MergePastStops PlacedMerges rest n r → MergePastStops PlacedMerges rest n1 r1 → (n ≡ n1) × (r ≡ r1)
conflict_one e f s t = let i = (cons_one (sym e ∙ f)).0 in (i, join_stops_one Placed PlacedMerges merged_one s (rw (← i) at t))

-- what comes of patches under a policy is one
pub under_one : (policy : Policy) (rest new merged merged1 : List Placed) (count count1 : ℕ) →
    MergesUnder policy rest new merged count → MergesUnder policy rest new merged1 count1 → (merged ≡ merged1) × (count ≡ count1)
under_one Refuse rest new merged merged1 count count1 (m, e) (n, f) = ((rect_one Placed PlacedMerges merged_one refl m.1 n.1).0, e ∙ sym f)
under_one Skip rest new merged merged1 count count1 (some, (left, g, e)) (some1, (left1, h, f)) = let a = sift_one refl refl g h in (a.0, e ∙ ap length a.1 ∙ sym f)

pub conflicts_one : (policy : Policy) (rest new : List Placed) (n r n1 r1 : Placed) → ConflictsUnder policy rest new n r → ConflictsUnder policy rest new n1 r1 → (n ≡ n1) × (r ≡ r1)
conflicts_one Refuse rest new n r n1 r1 s t = merge_stops_one Placed PlacedMerges merged_one s t
conflicts_one Skip rest new n r n1 r1 (after, left, e, s, g) (after1, left1, f, t, h) = conflict_one e f s t

pub conflicts_exclude : (policy : Policy) (rest new merged : List Placed) (count : ℕ) (n r : Placed) → ConflictsUnder policy rest new n r → MergesUnder policy rest new merged count → ⊥
conflicts_exclude Refuse rest new merged count n r s (m, e) = merge_stops Placed PlacedMerges merged_one s m
conflicts_exclude Skip rest new merged count n r (after, left, e, s, g) (some, (left1, h, f)) = some (sym (sift_one refl refl g h).0)

-- what is merged applies
alone : {n : Placed} {s t : LawfulMap} → InTurn PlacedLeads (n ∷ []) s t → PlacedLeads n s t
alone (step h done) = h

pub sift_runs : {skipped rest new merged left : List Placed} {s u a b : LawfulMap} → Sifts skipped rest new merged left →
    InTurn PlacedLeads skipped s u → InTurn PlacedLeads new u a → InTurn PlacedLeads rest s b → (z : LawfulMap) × InTurn PlacedLeads merged b z
sift_runs ends k done r = (_, done)
sift_runs (merges o g) k (step h t) r =
    let v = rectangle_runs Placed LawfulMap PlacedCommutes PlacedLeads placed_runs o.passes_skipped k (step h done) in
    let w = rect_runs Placed LawfulMap PlacedMerges PlacedLeads merged_runs o.merges_past r v.1 in
    let z = sift_runs g v.2 t w.2 in (z.0, step (alone w.1) z.1)
sift_runs (skips stuck g) k (step h t) r = sift_runs g (runs_on k (step h done)) t r

pub under_runs : (policy : Policy) (rest new merged : List Placed) (count : ℕ) {s a b : LawfulMap} → MergesUnder policy rest new merged count →
    InTurn PlacedLeads rest s b → InTurn PlacedLeads new s a → (z : LawfulMap) × InTurn PlacedLeads merged b z
under_runs Refuse rest new merged count (m, e) r n = let z = rect_runs Placed LawfulMap PlacedMerges PlacedLeads merged_runs m.1 r n in (z.0, z.1)
under_runs Skip rest new merged count (some, (left, g, e)) r n = sift_runs g done n r

-- where none is merged all are skipped
pub all_skipped : {skipped rest new merged left : List Placed} → Sifts skipped rest new merged left → merged ≡ [] → left ≡ skipped ++ new
all_skipped (ends {skipped}) e = sym (append-nil skipped)
all_skipped (merges o g) e = absurd (cc)
all_skipped (skips {n} {skipped} {new} stuck g) e = all_skipped g e ∙ append_assoc skipped (n ∷ []) new

-- the first of those that are sifted after nothing was skipped
pub first_skipped : {rest new merged left after : List Placed} {n : Placed} → Sifts [] rest new merged left → merged ≡ [] → new ≡ n ∷ after → MergesNowhere [] rest n
first_skipped ends e f = absurd (cc)
first_skipped (merges o g) e f = absurd (cc)
first_skipped {rest} (skips stuck g) e f = rw (cons_one f).0 at stuck

-- without anything skipped, to be merged over others is to be merged with the rest
pub over_none : {rest rest' : List Placed} {n n' : Placed} → MergesPast PlacedMerges rest n n' rest' → MergesOver [] rest n n' [] rest'
over_none {n} g = record { between = n; passes_skipped = empty; merges_past = g }

-- the first of a list that is read
pub first_of : (new : List Placed) (x : Placed) → new ≢ [] → x ≡ get_or new 0 x → new ≡ x ∷ drop 1 new
first_of [] x some e = absurd (some refl)
first_of (n ∷ new) x some e = ap (λ y. y ∷ new) (sym e)

pub first_merges : (new : List Placed) (x : Placed) {rest rest' left : List Placed} {n' : Placed} → new ≢ [] → x ≡ get_or new 0 x → Sifts [] rest new [] left →
    MergesPast PlacedMerges rest (get_or new 0 x) n' rest' → ⊥
first_merges new x {rest'} {n'} some e g m = first_skipped g refl (first_of new x some e) n' [] rest' (over_none (rw (← e) at m))

-- a patch that one of the skipped ones stops, or one of the rest
pub stuck_skipped : {skipped rest : List Placed} {n r : Placed} → PassStops PlacedCommutes skipped n r → MergesNowhere skipped rest n
stuck_skipped s n' skipped' rest' o = pass_stops Placed PlacedCommutes placed_one s o.passes_skipped

pub stuck_rest : {skipped skipped1 rest : List Placed} {n n1 r : Placed} → Passes PlacedCommutes skipped n n1 skipped1 → MergePastStops PlacedMerges rest n1 r → MergesNowhere skipped rest n
stuck_rest p s n' skipped' rest' o =
    let e = cons_one (rectangle_one Placed PlacedCommutes placed_one p o.passes_skipped).0 in
    join_stops Placed PlacedMerges merged_one s (rw (← e.0) at o.merges_past)

-- where nothing conflicts both policies agree
merge_bare : {rest out rest' : List Placed} → MergeRectangle PlacedMerges rest [] out rest' → (out ≡ []) × (rest' ≡ rest)
merge_bare bare = (refl, refl)
merge_bare (over {r} none g) = let e = merge_bare g in (e.0, ap (λ l. r ∷ l) e.1)

sift_more : {n : Placed} {rest ys' xs1 new zs' out : List Placed} → MergeRectangle PlacedMerges rest (n ∷ []) ys' xs1 → out ≡ ys' ++ zs' → Sifts [] xs1 new zs' [] → Sifts [] rest (n ∷ new) out []
sift_more a e s = let c = single Placed PlacedMerges a in rw (e, c.1) (merges (over_none (rw c.1 at a)) s)

sift_from : (new : List Placed) {rest new' rest' : List Placed} → MergeRectangle PlacedMerges rest new new' rest' → Sifts [] rest new new' []
sift_from [] g = let e = merge_bare g in rw e.0 ends
sift_from (n ∷ new) g = let a = rect_part Placed PlacedMerges (n ∷ []) new refl g in sift_more a.3 a.5 (sift_from new a.4)

pass_bare : {xs xs' : List Placed} {h h' : Placed} → Passes PlacedCommutes xs h h' xs' → xs ≡ [] → (h' ≡ h) × (xs' ≡ [])
pass_bare empty e = (refl, refl)
pass_bare (row g s) e = absurd (cc)

pass_some : {xs xs' : List Placed} {h h' : Placed} → Passes PlacedCommutes xs h h' xs' → xs' ≡ [] → xs ≡ []
pass_some empty e = refl
pass_some (row g s) e = absurd (cc)

pub push_some : (xs : List Placed) (x : Placed) → xs ++ x ∷ [] ≢ []
push_some [] x e = cc
push_some (y ∷ ys) x e = cc

-- what was skipped stays skipped
left_some : {skipped rest new merged left : List Placed} → Sifts skipped rest new merged left → skipped ≢ [] → left ≢ []
left_some ends h e = h e
left_some (merges o g) h e = left_some g (λ k. h (pass_some o.passes_skipped k)) e
left_some (skips {n} {skipped} stuck g) h e = left_some g (push_some skipped n) e

merge_from : {skipped rest new merged left : List Placed} → skipped ≡ [] → left ≡ [] → Sifts skipped rest new merged left → (rest' : List Placed) × MergeRectangle PlacedMerges rest new merged rest'
merge_from e f (ends {rest}) = (rest, merge_narrow Placed PlacedMerges rest)
merge_from e f (merges o g) =
    let k = pass_bare o.passes_skipped e in
    let m = merge_from k.1 f g in (m.0, merge_along Placed PlacedMerges (rw k.0 at o.merges_past) m.1)
merge_from e f (skips {n} {skipped} stuck g) = absurd (left_some g (push_some skipped n) f)

length_none : (xs : List Placed) → 0 ≡ length xs → xs ≡ []
length_none [] e = refl
length_none (x ∷ xs) e = absurd (cc)

merged_some : {n : Placed} {rest new merged : List Placed} → Sifts [] rest (n ∷ new) merged [] → merged ≢ []
merged_some g e = let a = all_skipped g e in absurd (cc)

pub policies_agree : PoliciesAgree
policies_agree rest n new merged = (
  λ (m, e). let g = sift_from (n ∷ new) m.1 in (merged_some g, ([], g, refl)),
  λ (some, (left, g, e)). let h = length_none left e in (merge_from refl h g, refl),
)

-- each patch is merged or skipped
strip_length : {x x' : Placed} {ys ys' : List Placed} → CellRow PlacedMerges x ys ys' x' → length ys' ≡ length ys
strip_length none = refl
strip_length (next c s) = ap suc (strip_length s)

rect_length : {rest new new' rest' : List Placed} → MergeRectangle PlacedMerges rest new new' rest' → length new' ≡ length new
rect_length bare = refl
rect_length (over t g) = rect_length g ∙ strip_length t

pub pass_length : {xs xs' : List Placed} {h h' : Placed} → Passes PlacedCommutes xs h h' xs' → length xs' ≡ length xs
pass_length empty = refl
pass_length (row g (next c none)) = ap suc (pass_length g)

sift_length : {skipped rest new merged left : List Placed} → Sifts skipped rest new merged left → length merged + length left ≡ length skipped + length new
sift_length (ends {skipped}) = omega arith
sift_length (merges o g) = let e = sift_length g in let p = pass_length o.passes_skipped in omega (arith, e, p)
sift_length (skips {n} {skipped} stuck g) = let e = sift_length g in omega (arith, e, length-append skipped (n ∷ []))

pub each_merged_or_skipped : EachIsMergedOrSkipped
each_merged_or_skipped Refuse rest new merged skipped (m, e) = let l = rect_length m.1 in omega (arith, l, e)
each_merged_or_skipped Skip rest new merged skipped (some, (left, g, e)) = let l = sift_length g in omega (arith, l, e)

-- a bundle with something new has patches to merge
all_held : (repo : List Patch) {xs front rest : List Placed} → Split PlacedCommutes (IsHeld repo) xs front rest → rest ≡ [] → (i : PatchInfo) → Holds (patches xs) i → Holds repo i
all_held repo nothing e i k = absurd (none_of k)
all_held repo (stays {h} {xs} held s) e i k = elim (one_of h.1.info (infos_of (patches xs)) k) [ inl f ↦ rw f at held | inr m ↦ all_held repo s e i m ]
all_held repo (yields o s t) e i k = absurd (cc)

pub some_new : (repo : List Patch) (b : Contents) {front rest new : List Placed} → IsBundleSplit repo b front rest new → new ≢ []
some_new repo b p e = p.repo_split.prerequisites.is_new (λ i h. all_held repo p.split e i (rw (ap infos_of (patches_placed 0 b.patches)) h))

-- so some are merged, where not all of them are skipped
pub some_merged : (repo : List Patch) (b : Contents) {full rest new merged left : List Placed} → Fits repo b full new → Sifts [] rest new merged left →
    ((merged ≡ []) × (left ≢ []) → ⊥) → merged ≢ []
some_merged repo b fits g some e = some (e, λ h. some_new repo b fits.bundle_split (sym (all_skipped g e) ∙ h))

-- beside a rest without patches all are merged
sift_whole : (new : List Placed) → Sifts [] [] new new []
sift_whole [] = ends
sift_whole (n ∷ new) = merges (over_none bare) (sift_whole new)

pub whole_under : (policy : Policy) {new : List Placed} → new ≢ [] → MergesUnder policy [] new new 0
whole_under Refuse some = (([], bare), refl)
whole_under Skip {new} some = (some, ([], sift_whole new, refl))
