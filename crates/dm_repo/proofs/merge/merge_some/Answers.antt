use Rattle.std.proofs.Common.{rules, ◌≡◌, ◌≢◌, ◌∙◌, refl, ap, map, drop, length}
use Rattle.std.proofs.lemmas.Bool.{false≢true}
use Rattle.std.proofs.lemmas.Result.{err_from_is_err_and}
use Rattle.dm_repo.specs.declared.policy.Policy.TheVariants.{Skip}
use Rattle.dm_repo.specs.declared.refusal.Refusal.TheVariants.{Conflicts, Full}
use Rattle.dm_repo.specs.Stops.{AtPlaces}
use Rattle.dm_repo.specs.Sifting.{ConflictsUnder}
use Rattle.dm_repo.specs.Squares.{undone}
use Rattle.dm_repo.specs.Weighing.{RefusesBundle}
use Rattle.dm_repo.proofs.SiftLemmas.{all_skipped, some_merged}
use Rattle.dm_repo.proofs.SkipLemmas.{sifts_untold}
use Rattle.dm_repo.proofs.AsideMerges.{under_of, conflicts_of}
use Rattle.dm_repo.proofs.Splits.{whole}
use Rattle.dm_repo.proofs.Steps.{between_places, undone_twice}
use Rattle.dm_repo.proofs.merge.merge_some.Goals as goal

pub returns-in_err-sifted : goal.returns-in_err-sifted
returns-in_err-sifted g c = let p = err_from_is_err_and c.from_residual.result c.from_residual.ensures.1 in rw (p.1, p.2) (λ repo b full rest_of fits. ((λ e. cc), tt))

pub first_conflict-blocked-requires-clause-some : goal.first_conflict-blocked-requires-clause-some
first_conflict-blocked-requires-clause-some g c = rw c.as_mut_slice-then-is_all_skipped-2.ensures.value (c.if-is_all_skipped.ensures.0 refl).1

pub first_conflict-blocked-requires-clause-none_merged : goal.first_conflict-blocked-requires-clause-none_merged
first_conflict-blocked-requires-clause-none_merged g c =
    let none = (c.if-is_all_skipped.ensures.0 refl).0 in
    let s = c.in_ok-sifted.ensures in
    let a = c.as_mut_slice-then-is_all_skipped.ensures.value ∙ s.same_rest none in
    let b = c.as_mut_slice-then-is_all_skipped-2.ensures.value ∙ all_skipped (sifts_untold s.sifts) none in
    (c.in_ok-sifted.sifted.skipped.items, rw (a, b) (rw none at (sifts_untold s.sifts)))

pub returns-then-is_all_skipped : goal.returns-then-is_all_skipped
returns-then-is_all_skipped g c = λ repo b full rest_of fits.
    let rest = c.args.rest.items in
    let new = c.args.new.items in
    let none = (c.if-is_all_skipped.ensures.0 refl).0 in
    let s = c.in_ok-sifted.ensures in
    let kept = whole c.undo_all.new.patches (drop (length c.undo_all.new.patches) rest) c.args.rest.len (search rules) in
    let e = c.as_mut_slice-then-is_all_skipped.ensures.value ∙ s.same_rest none ∙ kept ∙ c.undo_all.ensures ∙ ap (map undone) c.as_mut_slice.ensures.value in
    let f : map undone c.as_mut_slice-then-is_all_skipped.result.now ≡ rest = ap (map undone) e ∙ undone_twice rest in
    let h : c.as_mut_slice-then-is_all_skipped-2.result.now ≡ new = c.as_mut_slice-then-is_all_skipped-2.ensures.value ∙ all_skipped (sifts_untold s.sifts) none in
    rw c.conflicts.ensures
    (between_places (λ why. (why ≢ Full) × RefusesBundle repo b Skip why) Conflicts (AtPlaces (ConflictsUnder Skip rest new)) c.first_conflict-blocked.result ((λ e. cc), tt) (λ j k q. ((λ e. cc), (full, new, fits, (q.0, q.1, q.2, q.3, conflicts_of Skip full rest new q.0 q.1 rest_of q.4)))) (rw (f, h) at c.first_conflict-blocked.ensures))

pub returns : goal.returns
returns g c = λ repo b full rest_of fits.
    let rest = c.args.rest.items in
    let new = c.args.new.items in
    let s = c.in_ok-sifted.ensures in
    let kept = whole c.undo_all.new.patches (drop (length c.undo_all.new.patches) rest) c.args.rest.len (search rules) in
    let e = kept ∙ c.undo_all.ensures ∙ ap (map undone) c.as_mut_slice.ensures.value in
    let g1 = rw (e, undone_twice rest) at (sifts_untold s.sifts) in
    let some = some_merged repo b fits g1 (λ h. false≢true (c.if-is_all_skipped.ensures.1 h)) in
    under_of Skip full rest new c.in_ok-sifted.sifted.merged.items c.len-skipped.result rest_of (some, (c.in_ok-sifted.sifted.skipped.items, g1, c.len-skipped.ensures ∙ c.in_ok-sifted.sifted.skipped.ok.0))
