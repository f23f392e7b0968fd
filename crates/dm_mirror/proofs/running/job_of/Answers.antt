use Rattle.std.proofs.Common.{arith, ◌∙◌}
use Rattle.dm_mirror.specs.Jobs.{IsLine}
use Rattle.dm_mirror.proofs.ListLemmas.{none_left, leads_more, leads_end, room_more, fewer}
use Rattle.dm_mirror.proofs.running.job_of.Goals as goal

pub loop-outlet-preserved : goal.loop-outlet-preserved
loop-outlet-preserved c =
    let inv = c.loop-outlet.invariant in
    let outlets = c.in-Some.ensures.items in
    let copies = c.in-Some-pop_front.ensures.items in
    let texts = c.args.poster.texts.value.items in
    let alike = rw copies at inv.alike in
    record {
      lines = leads_more (IsLine texts) _ c.loop-outlet.outlets.items _ c.in-Some.outlet c.loop-outlet.lines.items _ _ outlets c.push_back_reserved.ensures.items (c.line_of.ensures.outlet, c.line_of.ensures.texts ∙ alike.0) inv.lines;
      unsent = (rw outlets at inv.unsent).1;
      alike = alike.1;
      as_many = fewer c.loop-outlet.copies.items _ c.loop-outlet.outlets.items _ _ _ copies outlets inv.as_many;
      fits = room_more c.loop-outlet.outlets.items _ _ c.loop-outlet.lines.items _ _ _ _ outlets c.push_back_reserved.ensures.items c.push_back_reserved.ensures.capacity inv.fits;
    }

pub returns : goal.returns
returns c =
    leads_end (IsLine c.args.poster.texts.value.items) _ c.loop-outlet.outlets.items _ (none_left c.loop-outlet.outlets.items (omega (arith, c.in_default.ensures.cases))) c.loop-outlet.invariant.lines
