use Rattle.std.proofs.Common.{arith, length, ap, refl, sym, subst, ◌≡◌, ◌∙◌}
use Rattle.dm_mail.specs.Ends.{AreNewOutlets}
use Rattle.dm_mirror.specs.Jobs.{IsOpened}
use Rattle.dm_mirror.proofs.ListLemmas.{none_left, leads_none, leads_more, leads_end, room_more, rows_more, one_by_one, no_rows, count_more, firsts_more, firsts_end}
use Rattle.dm_mirror.proofs.running.open_each.Goals as goal

pub loop-mirror-preserved : goal.loop-mirror-preserved
loop-mirror-preserved g c =
    let inv = c.loop-mirror.invariant in
    let made = c.push_back_reserved.ensures in
    let rows = c.push_back_reserved-in-Some.ensures in
    let opened = c.in-Ok.ensures in
    let number : c.len-number.result ≡ length c.loop-mirror.jobs.items = omega (arith, c.len-number.ensures) in
    record {
      jobs = leads_more (IsOpened c.args.posters c.args.expected c.args.bound) _ c.loop-mirror.mirrors.items _ c.in-Some.mirror c.loop-mirror.jobs.items _ _ c.in-Some.ensures.items made.items
          (refl, refl, opened.inlet.0, opened.bound) inv.jobs;
      rows = rows_more (λ job row. (length row ≡ c.args.posters) × AreNewOutlets job.inlet 0 row) (λ row. row.items) c.loop-mirror.jobs.items _ _ c.loop-mirror.outlets.items _ c.from.result made.items rows.items
          (ap length c.from.ensures.0 ∙ opened.outlets.0, subst (AreNewOutlets c.in-Ok.ends.1 0) (sym c.from.ensures.0) opened.outlets.1) inv.rows;
      policies = firsts_more (λ job. job.policy) c.loop-mirror.jobs.items _ _ c.args.policies.now c.len-number.result _ made.items number refl
          (omega (arith, ap length c.in-Some.ensures.items, number, inv.as_many)) inv.policies;
      as_many = count_more c.loop-mirror.mirrors.items _ _ c.loop-mirror.jobs.items _ _ _ c.in-Some.ensures.items made.items inv.as_many;
      ready = (rw c.in-Some.ensures.items at inv.ready).1;
      fits = room_more c.loop-mirror.mirrors.items _ _ c.loop-mirror.jobs.items _ _ _ _ c.in-Some.ensures.items made.items made.capacity inv.fits;
      fits_outlets = room_more c.loop-mirror.mirrors.items _ _ c.loop-mirror.outlets.items _ _ _ _ c.in-Some.ensures.items rows.items rows.capacity inv.fits_outlets;
    }

pub loop-mirror-init : goal.loop-mirror-init
loop-mirror-init g c =
    let none = c.in_ok-jobs.ensures.items in
    record {
      jobs = leads_none (IsOpened c.args.posters c.args.expected c.args.bound) _ c.in_ok-jobs.jobs.items none;
      rows = no_rows _ (λ row. row.items) c.in_ok-jobs.jobs.items c.in_ok-outlets.outlets.items none c.in_ok-outlets.ensures.items;
      policies = rw none refl;
      as_many = omega (arith, ap length none, c.requires.as_many);
      ready = one_by_one _ _ c.requires.ready;
      fits = omega (arith, ap length none, c.in_ok-jobs.ensures.capacity, c.len.ensures);
      fits_outlets = omega (arith, ap length c.in_ok-outlets.ensures.items, c.in_ok-outlets.ensures.capacity, c.len-2.ensures);
    }

pub returns-clause-mirrors : goal.returns-clause-mirrors
returns-clause-mirrors g c =
    leads_end (IsOpened c.args.posters c.args.expected c.args.bound) _ c.loop-mirror.mirrors.items _ (none_left c.loop-mirror.mirrors.items (omega (arith, c.in_default.ensures.cases))) c.loop-mirror.invariant.jobs

pub returns-clause-policies : goal.returns-clause-policies
returns-clause-policies g c =
    let inv = c.loop-mirror.invariant in
    firsts_end (λ job. job.policy) _ c.loop-mirror.mirrors.items c.args.policies.now (none_left c.loop-mirror.mirrors.items (omega (arith, c.in_default.ensures.cases))) inv.as_many inv.policies
