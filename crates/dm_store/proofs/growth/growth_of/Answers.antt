use Rattle.std.proofs.Common.{◌<◌, arith, length, refl}
use Rattle.dm_tree.proofs.Fronts.{refuted}
use Rattle.dm_store.proofs.GrowthLemmas.{first_more, first_whole}
use Rattle.dm_store.proofs.growth.growth_of.Goals as goal
use Rattle.dm_store.proofs.growth.growth_of.Goals.{then-i-eq0+then-is_whole, else-i-eq0, else-i-eq0-via-then-i-eq0+else-is_whole, else-i-eq0-via-else-i-eq0}

pub loop-i-preserved : goal.loop-i-preserved
loop-i-preserved c =
    let entries = c.args.entries.now in
    let le : c.loop-i.i < length entries = omega (arith, c.loop-i-test.true, c.len-i-end.ensures) in
    elim c.if-i-eq0.branch [
      | then-i-eq0+then-is_whole w ↦
          let made = w.of_whole-growth-then-is_whole.ensures in
          rw w.growth-is (first_whole entries c.loop-i.i _ w.of_whole-growth-then-is_whole.result (omega (arith, w.if-i-eq0.true)) le (rw c.text-entry.ensures at (w.if-is_whole.ensures.0 refl)) (rw c.text-entry.ensures at made.whole) made.few made.since made.entries)
      | else-i-eq0 w ↦
          rw w.growth-is (first_more entries c.loop-i.i _ c.loop-i.growth w.add.new.self le
          (elim w.else-i-eq0.branch [
            | else-i-eq0-via-then-i-eq0+else-is_whole v ↦ λ first. rw c.text-entry.ensures at (refuted v.if-is_whole.ensures)
            | else-i-eq0-via-else-i-eq0 v ↦ λ first. absurd (omega (arith, first, v.if-i-eq0.false))
          ])
          c.loop-i.invariant w.add.ensures.whole (rw c.text-entry.ensures at w.add.ensures.since) w.add.ensures.entries)
    ]
