use Rattle.std.proofs.Common.{arith, ◌∙◌}
use Rattle.dm_mirror.specs.Jobs.{SameLine}
use Rattle.dm_mirror.proofs.ListLemmas.{none_left, leads_more, leads_end, room_more}
use Rattle.dm_mirror.proofs.posting.send_round.Goals as goal

pub loop-line-preserved : goal.loop-line-preserved
loop-line-preserved g c =
    let inv = c.loop-line.invariant in
    record {
      lines = leads_more SameLine _ c.loop-line.lines.items _ c.in-Some.line c.loop-line.moved.items _ _ c.in-Some.ensures.items c.push_back_reserved.ensures.items c.send_next.ensures inv.lines;
      fits = room_more c.loop-line.lines.items _ _ c.loop-line.moved.items _ _ _ _ c.in-Some.ensures.items c.push_back_reserved.ensures.items c.push_back_reserved.ensures.capacity inv.fits;
      capacity = c.pop_front.ensures.capacity ∙ inv.capacity;
      capacity_of_moved = c.push_back_reserved.ensures.capacity ∙ inv.capacity_of_moved;
    }

pub returns-clause-lines : goal.returns-clause-lines
returns-clause-lines g c =
    leads_end SameLine _ c.loop-line.lines.items _ (none_left c.loop-line.lines.items (omega (arith, c.in_default.ensures.cases))) c.loop-line.invariant.lines
