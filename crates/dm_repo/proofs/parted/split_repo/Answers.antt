use Rattle.std.proofs.Common.{length}
use Rattle.std.proofs.lemmas.Result.{err_from_is_err_and}
use Rattle.dm_repo.specs.Squares.{PlacedCommutes, placed}
use Rattle.dm_repo.specs.Staircases.{SplitStops}
use Rattle.dm_repo.specs.Stops.{AtPlaces, IsMarked}
use Rattle.dm_repo.specs.CommonSets.{Common}
use Rattle.dm_repo.specs.Weighing.{IsCommon}
use Rattle.dm_repo.specs.Splitting.{RefusesToSplit}
use Rattle.dm_repo.specs.declared.refusal.Refusal.TheVariants.{ContextDepends}
use Rattle.dm_repo.proofs.Alike.{split_alike}
use Rattle.dm_repo.proofs.Splits.{kept_stay, kept_stop}
use Rattle.dm_repo.proofs.Steps.{alike_placed, stops_alike, blocked_map, between_places}
use Rattle.dm_repo.proofs.AsideMarks.{behind_within}
use Rattle.dm_repo.proofs.parted.split_repo.Goals as goal

pub split_by-requires : goal.split_by-requires
split_by-requires g c =
    let marks = c.args.marks.now.common.items in
    rw (c.deref.ensures.value, c.in_ok-copied.ensures, c.patches.ensures.value) (behind_within c.args.repo.now.patches c.args.kept (length marks) (rw c.requires.marks at c.requires.within) c.requires.marks)

pub returns-in_err-copied : goal.returns-in_err-copied
returns-in_err-copied g c = λ b marked. let p = err_from_is_err_and c.from_residual.result c.from_residual.ensures.1 in rw (p.1, p.2) tt

pub returns-in-Ok : goal.returns-in-Ok
returns-in-Ok g c = λ b marked.
    let repo = c.args.repo.now.patches in
    let marks = c.args.marks.now.common.items in
    let a = alike_placed marks (Common repo b) repo marked.common_is in
    let s = rw (c.deref.ensures.value, c.in_ok-copied.ensures, c.patches.ensures.value) at c.in-Ok.ensures in
    split_alike PlacedCommutes (IsMarked marks) (IsCommon repo b) a (kept_stay marks repo c.args.kept (rw c.requires.marks at c.requires.within) c.requires.marked s)

pub returns-in-Err : goal.returns-in-Err
returns-in-Err g c = λ b marked.
    let repo = c.args.repo.now.patches in
    let marks = c.args.marks.now.common.items in
    let a = alike_placed marks (Common repo b) repo marked.common_is in
    let s = rw (c.deref.ensures.value, c.in_ok-copied.ensures, c.patches.ensures.value) at c.in-Err.ensures in
    rw c.context_depends.ensures
    (between_places (RefusesToSplit repo b) ContextDepends (AtPlaces (SplitStops PlacedCommutes (IsCommon repo b) (placed repo))) c.in-Err.blocked tt (λ j k q. (marked.knows, q))
    (blocked_map c.in-Err.blocked (λ h r q. stops_alike PlacedCommutes a (kept_stop marks repo c.args.kept (rw c.requires.marks at c.requires.within) c.requires.marked q)) s))
