use Rattle.std.proofs.Common.{arith, ◌∙◌}
use Rattle.dm_mirror.proofs.ListLemmas.{none_left, heads_more, heads_end, room_more}
use Rattle.dm_mirror.proofs.columns.take_column.Goals as goal

pub loop-row-preserved : goal.loop-row-preserved
loop-row-preserved g c =
    let inv = c.loop-row.invariant in
    record {
      heads = heads_more (λ r. r.items) _ c.loop-row.rows.items _ c.in-Some.row c.pop_front-in-Some.new.self c.in-Some-pop_front.head c.loop-row.heads.items _ c.loop-row.rests.items _
          c.in-Some.ensures.items c.in-Some-pop_front.ensures.items c.push_back_reserved.ensures.items c.push_back_reserved-in-Some.ensures.items inv.heads;
      filled = (rw c.in-Some.ensures.items at inv.filled).1;
      fits = room_more c.loop-row.rows.items _ _ c.loop-row.rests.items _ _ _ _ c.in-Some.ensures.items c.push_back_reserved-in-Some.ensures.items c.push_back_reserved-in-Some.ensures.capacity inv.fits;
      fits_heads = room_more c.loop-row.rows.items _ _ c.loop-row.heads.items _ _ _ _ c.in-Some.ensures.items c.push_back_reserved.ensures.items c.push_back_reserved.ensures.capacity inv.fits_heads;
      capacity = c.pop_front.ensures.capacity ∙ inv.capacity;
      capacity_of_rests = c.push_back_reserved-in-Some.ensures.capacity ∙ inv.capacity_of_rests;
      capacity_of_heads = c.push_back_reserved.ensures.capacity ∙ inv.capacity_of_heads;
    }

pub returns-clause-heads : goal.returns-clause-heads
returns-clause-heads g c =
    heads_end (λ r. r.items) _ c.loop-row.rows.items _ c.loop-row.rests.items (none_left c.loop-row.rows.items (omega (arith, c.in_default.ensures.cases))) c.loop-row.invariant.heads
