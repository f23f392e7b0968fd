use Rattle.std.proofs.Common.{length}
use Rattle.std.proofs.lemmas.Result.{err_from_is_err_and}
use Rattle.dm_repo.specs.Stops.{AtPlaces, IsMarked}
use Rattle.dm_repo.specs.Staircases.{SplitStops}
use Rattle.dm_repo.specs.Squares.{PlacedCommutes, placed}
use Rattle.dm_repo.specs.Repositories.{Holds}
use Rattle.dm_repo.specs.Refusals.{IsBeforeFront}
use Rattle.dm_repo.specs.Weighing.{IsHeld, RefusesBundle}
use Rattle.dm_repo.specs.declared.refusal.Refusal.TheVariants.{HeldDepends}
use Rattle.dm_repo.proofs.Alike.{split_alike}
use Rattle.dm_repo.proofs.Splits.{placed_within}
use Rattle.dm_repo.proofs.Steps.{alike_placed, stops_alike, blocked_map, between_places}
use Rattle.dm_repo.proofs.parted.split_held.Goals as goal

pub split_by-requires : goal.split_by-requires
split_by-requires g c = rw (c.deref.ensures.value, c.in_ok-placed.ensures) (placed_within c.args.new.items (length c.args.marks.now.held.items) c.requires)

pub returns-in_err-placed : goal.returns-in_err-placed
returns-in_err-placed g c = λ repo b policy front rest e found parted. let p = err_from_is_err_and c.from_residual.result c.from_residual.ensures.1 in rw (p.1, p.2) (tt, tt)

pub returns-in-Ok : goal.returns-in-Ok
returns-in-Ok g c = λ repo b policy front rest e found parted.
    let marks = c.args.marks.now.held.items in
    let a = alike_placed marks (Holds repo) c.args.new.items (rw e at found.marked.held_is) in
    record {
      repo_split = parted;
      held = c.in-Ok.parted.front.items;
      split = rw e (split_alike PlacedCommutes (IsMarked marks) (IsHeld repo) a (rw (c.deref.ensures.value, c.in_ok-placed.ensures) at c.in-Ok.ensures));
    }

pub returns-in-Err : goal.returns-in-Err
returns-in-Err g c = λ repo b policy front rest e found parted.
    let marks = c.args.marks.now.held.items in
    let a = alike_placed marks (Holds repo) c.args.new.items (rw e at found.marked.held_is) in
    rw c.held_depends.ensures
    (between_places (λ why. IsBeforeFront why × RefusesBundle repo b policy why) HeldDepends (AtPlaces (SplitStops PlacedCommutes (IsHeld repo) (placed b.patches))) c.in-Err.blocked (tt, tt)
    (λ j k s. (tt, (front, rest, parted, s))) (rw e (blocked_map c.in-Err.blocked (λ h r q. stops_alike PlacedCommutes a q) (rw (c.deref.ensures.value, c.in_ok-placed.ensures) at c.in-Err.ensures))))
