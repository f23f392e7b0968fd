use Rattle.std.proofs.Common.{arith, length, map, ap}
use Rattle.dm_mail.specs.Ends.{inlet_id}
use Rattle.dm_mirror.specs.Jobs.{IsSettled}
use Rattle.dm_mirror.specs.Plans.{plan_texts}
use Rattle.dm_mirror.proofs.ListLemmas.{none_left, leads_none, leads_more, leads_end, room_more}
use Rattle.dm_mirror.proofs.SettleLemmas.{next_ends, rows_of_ends, next_filled}
use Rattle.dm_mirror.proofs.running.settle_each.Goals as goal

pub loop-one-init : goal.loop-one-init
loop-one-init g c =
    let texts = plan_texts c.args.plan.now.value in
    let many = rows_of_ends (λ row. row.items) (map (λ one. inlet_id one.inlet) c.args.ended.kept.items) texts c.args.ended.rows.items c.requires.rows in
    record {
      mirrors = leads_none (IsSettled texts) _ c.args.outcome.items c.requires.empty.2;
      rows = c.requires.rows;
      kept = c.requires.kept;
      empty = (c.requires.empty.0, c.requires.empty.1);
      fits = (omega (arith, many, c.requires.fits.0), omega (arith, many, c.requires.fits.1), omega (arith, many, c.requires.fits.2));
      fits_outcome = omega (arith, ap length c.requires.empty.2, c.requires.fits_outcome);
    }

pub take_column-heads-requires-clause-filled : goal.take_column-heads-requires-clause-filled
take_column-heads-requires-clause-filled g c =
    next_filled (λ row. row.items) c.loop-one.kept.items c.pop_front.new.self.items c.in-Some.one (plan_texts c.args.plan.now.value) c.loop-one.rows.items c.in-Some.ensures.items c.loop-one.invariant.rows

pub take_column-heads-requires-clause-fits : goal.take_column-heads-requires-clause-fits
take_column-heads-requires-clause-fits g c =
    let inv = c.loop-one.invariant in
    let many = rows_of_ends (λ row. row.items) (map (λ one. inlet_id one.inlet) c.loop-one.kept.items) (plan_texts c.args.plan.now.value) c.loop-one.rows.items inv.rows in
    (omega (arith, many, inv.fits.1), omega (arith, many, inv.fits.2))

pub settled-mirror-requires-clause-ends : goal.settled-mirror-requires-clause-ends
settled-mirror-requires-clause-ends g c =
    (next_ends (λ row. row.items) c.loop-one.kept.items c.pop_front.new.self.items c.in-Some.one (plan_texts c.args.plan.now.value) c.loop-one.rows.items c.take_column-heads.result.heads.items c.take_column-heads.result.rests.items
    c.in-Some.ensures.items c.loop-one.invariant.rows c.take_column-heads.ensures.heads).0

pub loop-one-preserved : goal.loop-one-preserved
loop-one-preserved g c =
    let inv = c.loop-one.invariant in
    let texts = plan_texts c.args.plan.now.value in
    let next = next_ends (λ row. row.items) c.loop-one.kept.items c.pop_front.new.self.items c.in-Some.one texts c.loop-one.rows.items c.take_column-heads.result.heads.items c.take_column-heads.result.rests.items
    c.in-Some.ensures.items inv.rows c.take_column-heads.ensures.heads in
    let done = c.settled-mirror.ensures in
    let column = c.take_column-heads.ensures in
    let made = c.push_reserved.ensures in
    record {
      mirrors = leads_more (IsSettled texts) _ c.loop-one.kept.items _ c.in-Some.one c.loop-one.mirrors.items _ c.settled-mirror.result.0 c.in-Some.ensures.items made.items
          (record { delivered = done.delivered; receipts = done.receipts; mails = done.same.0; verdicts = done.same.1; repo = done.same.2 }) inv.mirrors;
      rows = next.1;
      kept = (rw c.in-Some.ensures.items at inv.kept).1;
      empty = (column.room.0, done.room.0);
      fits = (omega (arith, column.capacity.0, inv.fits.1), omega (arith, column.room.1, inv.fits.0), omega (arith, done.room.1, column.capacity.1, inv.fits.2));
      fits_outcome = room_more c.loop-one.kept.items _ _ c.loop-one.mirrors.items _ _ _ _ c.in-Some.ensures.items made.items made.capacity inv.fits_outcome;
    }

pub returns : goal.returns
returns g c =
    leads_end (IsSettled (plan_texts c.args.plan.now.value)) _ c.loop-one.kept.items _ (none_left c.loop-one.kept.items (omega (arith, c.in_default.ensures.cases))) c.loop-one.invariant.mirrors
