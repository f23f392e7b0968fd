use Rattle.std.proofs.Common.{length, sym, arith}
use Rattle.dm_agree.proofs.Searching.{owns_at_end, owns_before, owns_all, last_at}
use Rattle.dm_agree.proofs.owners.last_owned.Goals as goal

pub loop-count-init : goal.loop-count-init
loop-count-init g c = (omega arith, owns_at_end c.args.owners.now c.args.patches.now (length c.args.patches.now) (omega arith))

pub returns-in-Some : goal.returns-in-Some
returns-in-Some g c =
    last_at c.args.owners.now c.args.patches.now c.loop-count.count c.in-Some.place.now c.index-patches-k.result (omega arith) c.loop-count.invariant.0 c.index-patches-k.is
    (rw c.info.ensures at (sym c.in-Some.ensures.value)) c.loop-count.invariant.1

pub loop-count-preserved : goal.loop-count-preserved
loop-count-preserved g c = (
  omega (arith, c.loop-count.invariant.0),
  owns_before c.args.owners.now c.args.patches.now c.loop-count.count c.index-patches-k.result (omega arith) c.loop-count.invariant.0 c.index-patches-k.is
      (rw c.info.ensures at (sym c.in-None.ensures.value)) c.loop-count.invariant.1,
)

pub returns : goal.returns
returns g c = owns_all c.args.owners.now c.args.patches.now c.loop-count.count (omega arith) c.loop-count.invariant.1
