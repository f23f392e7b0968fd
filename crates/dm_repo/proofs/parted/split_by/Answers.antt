use Rattle.std.proofs.Common.{rules, ◌∙◌, [], ◌∷◌, ◌++◌, sym, ap, append_assoc, drop, false, length}
use Rattle.dm_repo.specs.Staircases.{nothing, PassStops, SplitStops}
use Rattle.dm_repo.specs.Squares.{Placed, PlacedCommutes}
use Rattle.dm_repo.specs.Stops.{IsMarked}
use Rattle.dm_repo.proofs.Splits.{whole, all_taken, is_within, split_more_in, split_more_out, split_stop, blocks_at}
use Rattle.dm_repo.proofs.parted.split_by.Goals as goal

pub loop-place-init : goal.loop-place-init
loop-place-init g c = record { can_next = tt; is_finite = tt; whole = search rules; split = rw (c.new-front.ensures.items, c.new-rest.ensures.items) nothing }

pub bounds-marks-place : goal.bounds-marks-place
bounds-marks-place g c =
    let yielded = c.loop-place.yielded in
    let w = c.loop-place.invariant.whole ∙ ap (λ z. yielded ++ z) c.in-Some.ensures.steps.0 in
    is_within c.args.patches.items yielded (c.in-Some.place, c.in-Some.patch) c.next.new.self.rest.items w c.args.marks.now c.requires c.loop-place.invariant.split false

pub loop-place-preserved-then-not-marks-place : goal.loop-place-preserved-then-not-marks-place
loop-place-preserved-then-not-marks-place g c =
    let x : Placed = (c.in-Some.place, c.in-Some.patch) in
    let yielded = c.loop-place.yielded in
    let left = c.next.new.self.rest.items in
    let w = c.loop-place.invariant.whole ∙ ap (λ z. yielded ++ z) c.in-Some.ensures.steps.0 in
    record {
      can_next = tt;
      is_finite = tt;
      whole = w ∙ sym (append_assoc yielded (x ∷ []) left);
      split = split_more_out c.args.patches.items yielded x left w c.args.marks.now c.requires c.loop-place.invariant.split false c.if-not-marks-place.true (rw c.new-passing.ensures at c.in_ok-push.ensures.items);
    }

pub returns-in-Err : goal.returns-in-Err
returns-in-Err g c =
    let x : Placed = (c.in-Some.place, c.in-Some.patch) in
    let all = c.args.patches.items in
    let yielded = c.loop-place.yielded in
    let left = c.next.new.self.rest.items in
    let w = c.loop-place.invariant.whole ∙ ap (λ z. yielded ++ z) c.in-Some.ensures.steps.0 in
    rw c.blocked.ensures
    (blocks_at x (PassStops PlacedCommutes c.as_mut_slice.result.now x) (SplitStops PlacedCommutes (IsMarked c.args.marks.now) all) c.in-Err.stop
    (λ r p. split_stop all yielded x left w c.args.marks.now c.requires c.loop-place.invariant.split false c.if-not-marks-place.false (rw c.as_mut_slice.ensures.value at p)) (rw c.new-passing.ensures at c.in-Err.ensures))

pub loop-place-preserved : goal.loop-place-preserved
loop-place-preserved g c =
    let x : Placed = (c.in-Some.place, c.in-Some.patch) in
    let yielded = c.loop-place.yielded in
    let left = c.next.new.self.rest.items in
    let w = c.loop-place.invariant.whole ∙ ap (λ z. yielded ++ z) c.in-Some.ensures.steps.0 in
    let kept = whole c.pass.new.rest (drop (length c.pass.new.rest) c.loop-place.rest.items) c.loop-place.rest.len (search rules) in
    record {
      can_next = tt;
      is_finite = tt;
      whole = w ∙ sym (append_assoc yielded (x ∷ []) left);
      split = rw kept (split_more_in c.args.patches.items yielded x left w c.args.marks.now c.requires c.loop-place.invariant.split false c.if-not-marks-place.false
          (rw (c.as_mut_slice.ensures.value, c.new-passing.ensures) at c.in-Ok.ensures) c.in_ok-push-2.ensures.items);
    }

pub returns : goal.returns
returns g c =
    let left = c.loop-place.place-iterator.rest in
    rw (all_taken c.args.patches.items c.loop-place.yielded left.items c.loop-place.invariant.whole (sym left.ok.0 ∙ c.in-None.ensures.steps.0)) c.loop-place.invariant.split
