use Rattle.std.proofs.Common.{arith, length, map, ap, subst, sym, ◌∙◌}
use Rattle.dm_mirror.specs.Jobs.{IsJobOf}
use Rattle.dm_mirror.specs.Lists.{EachWith}
use Rattle.dm_mirror.proofs.ListLemmas.{none_left, leads_from_none, leads_from_more, leads_from_end, each_length, one_by_one, one_more}
use Rattle.dm_mirror.proofs.RunLemmas.{IsNewTo, IsNewRow, outlets_filled, next_outlets, all_unsent, job_made}
use Rattle.dm_mirror.proofs.running.jobs_of.Goals as goal

pub loop-poster-init : goal.loop-poster-init
loop-poster-init c =
    let none = c.in_ok-jobs.ensures.items in
    record {
      jobs = leads_from_none (IsJobOf c.args.opened.mirrors.items) _ c.in_ok-jobs.jobs.items none;
      rows = subst (λ n. EachWith (IsNewRow (length c.args.posters.items) n) c.args.opened.mirrors.items (map (λ row. row.items) c.args.opened.outlets.items)) (sym (ap length none)) c.requires.outlets;
      copied = one_by_one _ _ c.requires.copied;
    }

pub take_column-heads-requires-clause-filled : goal.take_column-heads-requires-clause-filled
take_column-heads-requires-clause-filled c =
    outlets_filled (λ row. row.items) (length c.loop-poster.posters.items) (length c.loop-poster.jobs.items) c.args.opened.mirrors.items c.loop-poster.rows.items (omega (arith, ap length c.in-Some.ensures.items)) c.loop-poster.invariant.rows

pub job_of-requires-clause-unsent : goal.job_of-requires-clause-unsent
job_of-requires-clause-unsent c =
    let next = next_outlets (λ row. row.items) c.loop-poster.posters.items c.pop_front.new.self.items c.in-Some.poster (length c.loop-poster.jobs.items) c.args.opened.mirrors.items c.loop-poster.rows.items
    c.take_column-heads.result.heads.items c.take_column-heads.result.rests.items c.in-Some.ensures.items c.loop-poster.invariant.rows c.take_column-heads.ensures.heads in
    all_unsent (length c.loop-poster.jobs.items) c.args.opened.mirrors.items c.take_column-heads.result.heads.items next.0

pub job_of-requires-clause-count : goal.job_of-requires-clause-count
job_of-requires-clause-count c =
    let next = next_outlets (λ row. row.items) c.loop-poster.posters.items c.pop_front.new.self.items c.in-Some.poster (length c.loop-poster.jobs.items) c.args.opened.mirrors.items c.loop-poster.rows.items
    c.take_column-heads.result.heads.items c.take_column-heads.result.rests.items c.in-Some.ensures.items c.loop-poster.invariant.rows c.take_column-heads.ensures.heads in
    (rw c.in-Some.ensures.items at c.loop-poster.invariant.copied).0 ∙ sym (each_length (IsNewTo (length c.loop-poster.jobs.items)) c.args.opened.mirrors.items c.take_column-heads.result.heads.items next.0)

pub loop-poster-preserved : goal.loop-poster-preserved
loop-poster-preserved c =
    let inv = c.loop-poster.invariant in
    let next = next_outlets (λ row. row.items) c.loop-poster.posters.items c.pop_front.new.self.items c.in-Some.poster (length c.loop-poster.jobs.items) c.args.opened.mirrors.items c.loop-poster.rows.items
    c.take_column-heads.result.heads.items c.take_column-heads.result.rests.items c.in-Some.ensures.items inv.rows c.take_column-heads.ensures.heads in
    let made = c.in_ok-push_back.ensures.items in
    let job = c.in_ok-job_of.field-0 in
    record {
      jobs = leads_from_more (IsJobOf c.args.opened.mirrors.items) _ c.loop-poster.posters.items _ c.in-Some.poster c.loop-poster.jobs.items _ job c.in-Some.ensures.items made
          (job_made (length c.loop-poster.jobs.items) c.in-Some.poster c.args.opened.mirrors.items c.take_column-heads.result.heads.items job next.0 c.in_ok-job_of.ensures) inv.jobs;
      rows = subst (λ n. EachWith (IsNewRow (length c.pop_front.new.self.items) n) c.args.opened.mirrors.items (map (λ row. row.items) c.take_column-heads.result.rests.items))
          (sym (one_more c.loop-poster.jobs.items c.push_back.new.self.items job made)) next.1;
      copied = (rw c.in-Some.ensures.items at inv.copied).1;
    }

pub returns-clause-posters : goal.returns-clause-posters
returns-clause-posters c =
    leads_from_end (IsJobOf c.args.opened.mirrors.items) _ c.loop-poster.posters.items _ (none_left c.loop-poster.posters.items (omega (arith, c.in_default.ensures.cases))) c.loop-poster.invariant.jobs
