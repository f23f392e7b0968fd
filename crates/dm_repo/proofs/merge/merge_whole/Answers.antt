use Rattle.std.proofs.Common.{rules, ◌≡◌, ◌≢◌, ◌∙◌, refl, ap, map, drop, length}
use Rattle.dm_repo.specs.Stops.{AtPlaces}
use Rattle.dm_repo.specs.Merging.{MergeStops}
use Rattle.dm_repo.specs.Sifting.{MergesUnder}
use Rattle.dm_repo.specs.Squares.{PlacedMerges, undone}
use Rattle.dm_repo.specs.Weighing.{RefusesBundle}
use Rattle.dm_repo.specs.declared.policy.Policy.TheVariants.{Refuse}
use Rattle.dm_repo.specs.declared.refusal.Refusal.TheVariants.{Conflicts, Full}
use Rattle.dm_repo.proofs.AsideMerges.{under_of, conflicts_of}
use Rattle.dm_repo.proofs.Splits.{whole}
use Rattle.dm_repo.proofs.Steps.{between_places, undone_twice}
use Rattle.dm_repo.proofs.merge.merge_whole.Goals as goal

pub returns-in-Ok : goal.returns-in-Ok
returns-in-Ok g c = λ repo b full rest_of fits.
    let rest = c.args.rest.items in
    let new = c.args.new.items in
    let merged = c.merge_all.new.new in
    let kept = whole c.undo_all.new.patches (drop (length c.undo_all.new.patches) rest) c.args.rest.len (search rules) in
    let kept_new = whole merged (drop (length merged) new) c.args.new.len (search rules) in
    let e : c.as_mut_slice-2.result.now ≡ map undone rest = c.as_mut_slice-2.ensures.value ∙ kept ∙ c.undo_all.ensures ∙ ap (map undone) c.as_mut_slice.ensures.value in
    let f : map undone c.as_mut_slice-2.result.now ≡ rest = ap (map undone) e ∙ undone_twice rest in
    let rectangle = rw (f, c.as_mut_slice-3.ensures.value) at c.in-Ok.ensures in
    let merge : MergesUnder Refuse rest new merged 0 = ((map undone c.merge_all.new.rest, rectangle), refl) in
    rw kept_new (under_of Refuse full rest new merged 0 rest_of merge)

pub returns : goal.returns
returns g c = λ repo b full rest_of fits.
    let rest = c.args.rest.items in
    let new = c.args.new.items in
    let kept = whole c.undo_all.new.patches (drop (length c.undo_all.new.patches) rest) c.args.rest.len (search rules) in
    let e : c.as_mut_slice-2.result.now ≡ map undone rest = c.as_mut_slice-2.ensures.value ∙ kept ∙ c.undo_all.ensures ∙ ap (map undone) c.as_mut_slice.ensures.value in
    let f : map undone c.as_mut_slice-2.result.now ≡ rest = ap (map undone) e ∙ undone_twice rest in
    rw c.conflicts.ensures
    (between_places (λ why. (why ≢ Full) × RefusesBundle repo b Refuse why) Conflicts (AtPlaces (MergeStops PlacedMerges rest new)) c.in-Err.blocked ((λ e. cc), tt) (λ j k s. ((λ e. cc), (full, new, fits, (s.0, s.1, s.2, s.3, conflicts_of Refuse full rest new s.0 s.1 rest_of s.4)))) (rw (f, c.as_mut_slice-3.ensures.value) at c.in-Err.ensures))
