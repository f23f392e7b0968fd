use Rattle.std.proofs.Common.{arith}
use Rattle.dm_mirror.specs.Jobs.{EndsLine}
use Rattle.dm_mirror.proofs.ListLemmas.{none_left, leads_more, leads_end, room_more}
use Rattle.dm_mirror.proofs.posting.finish_all.Goals as goal

pub loop-line-preserved : goal.loop-line-preserved
loop-line-preserved g c =
    let inv = c.loop-line.invariant in
    record {
      ends = leads_more EndsLine _ c.loop-line.lines.items _ c.in-Some.line c.loop-line.ends.items _ _ c.in-Some.ensures.items c.push_back_reserved.ensures.items c.finish.ensures inv.ends;
      fits = room_more c.loop-line.lines.items _ _ c.loop-line.ends.items _ _ _ _ c.in-Some.ensures.items c.push_back_reserved.ensures.items c.push_back_reserved.ensures.capacity inv.fits;
    }

pub returns : goal.returns
returns g c =
    leads_end EndsLine _ c.loop-line.lines.items _ (none_left c.loop-line.lines.items (omega (arith, c.in_default.ensures.cases))) c.loop-line.invariant.ends
