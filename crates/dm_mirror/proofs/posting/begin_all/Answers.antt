use Rattle.std.proofs.Common.{arith, ◌∙◌}
use Rattle.dm_mirror.specs.Jobs.{IsBegun}
use Rattle.dm_mirror.proofs.ListLemmas.{none_left, leads_more, leads_end, room_more}
use Rattle.dm_mirror.proofs.posting.begin_all.Goals as goal

pub loop-line-preserved : goal.loop-line-preserved
loop-line-preserved c =
    let inv = c.loop-line.invariant in
    record {
      begun = leads_more IsBegun _ c.loop-line.lines.items _ c.in-Some.line c.loop-line.begun.items _ _ c.in-Some.ensures.items c.push_back_reserved.ensures.items c.begin.ensures inv.begun;
      fits = room_more c.loop-line.lines.items _ _ c.loop-line.begun.items _ _ _ _ c.in-Some.ensures.items c.push_back_reserved.ensures.items c.push_back_reserved.ensures.capacity inv.fits;
      capacity = c.push_back_reserved.ensures.capacity ∙ inv.capacity;
    }

pub returns-clause-begun : goal.returns-clause-begun
returns-clause-begun c =
    leads_end IsBegun _ c.loop-line.lines.items _ (none_left c.loop-line.lines.items (omega (arith, c.in_default.ensures.cases))) c.loop-line.invariant.begun
