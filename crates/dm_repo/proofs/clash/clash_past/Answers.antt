use Rattle.std.proofs.Common.{rules, refl, sym, ap, arith, length, ◌≤◌}
use Rattle.std.proofs.lemmas.List.{take_all}
use borrow.Author.Rules.{scaled_Fits}
use Rattle.dm_repo.specs.Merging.{bare}
use Rattle.dm_repo.specs.Squares.{Placed, PlacedMerges, undone}
use Rattle.dm_repo.proofs.ClashLemmas.{past_clash}
use Rattle.dm_repo.proofs.RowSteps.{merge_past_step}
use Rattle.dm_repo.proofs.clash.clash_past.Goals as goal

pub loop-k-init : goal.loop-k-init
loop-k-init g c = record { joined = bare; ahead = refl }

pub returns-in-Some : goal.returns-in-Some
returns-in-Some g c =
    past_clash c.args.rest.now c.loop-k.rest c.loop-k.k c.index-rest-k.result _ c.loop-k-test.true c.loop-k.auto.rest c.loop-k.invariant.ahead c.index-rest-k.is c.loop-k.invariant.joined refl
    (ap (λ (x : Placed). x.0) (sym c.index-rest-k.is))
    (rw (← c.index-rest-k.is) at (rw c.in-Some.is at c.in_ok-held_prim.ensures.square))

pub loop-k-preserved : goal.loop-k-preserved
loop-k-preserved g c =
    let s = merge_past_step undone PlacedMerges c.args.rest.now c.loop-k.rest c.loop-k.k c.index-rest-k.result c.meet.new.next c.loop-k-test.true c.loop-k.auto.rest c.loop-k.invariant.ahead c.loop-k.invariant.joined
    (rw c.in_default.is at c.in_ok-held_prim.ensures.square) in
    record { joined = s.0; ahead = s.1 }

pub offset_bounds-rest-k : goal.offset_bounds-rest-k
offset_bounds-rest-k g c = scaled_Fits _ _ _ c.loop-k-test.true (search rules)

pub returns : goal.returns
returns g c =
    let l : length c.loop-k.rest ≤ c.loop-k.k = omega (arith, c.loop-k-test.false, c.loop-k.auto.rest) in
    rw (take_all c.loop-k.k c.args.rest.now c.loop-k-test.false, take_all c.loop-k.k c.loop-k.rest l) at c.loop-k.invariant.joined
