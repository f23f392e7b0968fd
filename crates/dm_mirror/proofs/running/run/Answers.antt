use Rattle.std.proofs.Common.{arith, length, map, ap, sym, subst, ◌≡◌, ◌∙◌}
use Rattle.std.proofs.lemmas.List.{length-map}
use Rattle.std.specs.List.{All, AllByRecursion}
use Rattle.dm_mail.specs.Ends.{AreNewOutlets}
use Rattle.dm_mirror.specs.Lists.{EachWith}
use Rattle.dm_mirror.specs.Jobs.{DoesTake, IsKept}
use Rattle.dm_mirror.specs.Plans.{plan_texts, plan_bound}
use Rattle.dm_mirror.proofs.ListLemmas.{each_length, each_from_length}
use Rattle.dm_mirror.proofs.RunLemmas.{all_complete, fed_within, run_of}
use Rattle.dm_mirror.proofs.SettleLemmas.{run_rows, run_kept, run_done}
use Rattle.dm_mirror.proofs.running.run.Goals as goal

pub jobs_of-requires-clause-outlets : goal.jobs_of-requires-clause-outlets
jobs_of-requires-clause-outlets g c =
    let many : c.len-count.result ≡ length c.args.plan.posters.items = omega (arith, c.len-count.ensures) in
    subst (λ n. EachWith (λ job row. (length row ≡ n) × AreNewOutlets job.inlet 0 row) c.in_ok-opened.opened.mirrors.items (map (λ row. row.items) c.in_ok-opened.opened.outlets.items)) many c.in_ok-opened.ensures.outlets

pub jobs_of-requires-clause-copied : goal.jobs_of-requires-clause-copied
jobs_of-requires-clause-copied g c =
    subst (λ n. All (λ poster. length poster.copies.items ≡ n) c.args.plan.posters.items) (sym (each_length _ c.args.plan.mirrors.items c.in_ok-opened.opened.mirrors.items c.in_ok-opened.ensures.mirrors)) c.args.plan.copied

pub in_threads-requires-after_bounds : goal.in_threads-requires-after_bounds
in_threads-requires-after_bounds g c κs within =
    let jobs = c.in_ok-posters.ensures in
    let posters = each_from_length _ 0 c.args.plan.posters.items c.in_ok-posters.posters.items jobs.posters in
    let mirrors = each_length _ c.args.plan.mirrors.items c.in_ok-opened.opened.mirrors.items c.in_ok-opened.ensures.mirrors in
    (omega (arith, posters, c.args.plan.shape.0.1), omega (arith, mirrors, ap (λ q. length q.items) jobs.mirrors, c.args.plan.shape.1.1))

pub settle_each-mirrors-requires-clause-rows : goal.settle_each-mirrors-requires-clause-rows
settle_each-mirrors-requires-clause-rows g c =
    let jobs = c.in_ok-posters.ensures in
    let ended = c.in_ok-ended.ensures in
    run_rows (λ row. row.items) c.args.plan c.of-whole_plan.result.value c.in_ok-opened.opened.mirrors.items c.in_ok-posters.mirrors.items c.in_ok-posters.posters.items c.in_ok-ended.ended.rows.items c.in_ok-ended.ended.kept.items
    c.of-whole_plan.ensures (ap (λ q. q.items) jobs.mirrors) jobs.posters ended.posters ended.mirrors

pub settle_each-mirrors-requires-clause-kept : goal.settle_each-mirrors-requires-clause-kept
settle_each-mirrors-requires-clause-kept g c =
    let many : c.len-count.result ≡ length c.args.plan.posters.items = omega (arith, c.len-count.ensures) in
    run_kept c.args.plan c.of-whole_plan.result.value c.len-count.result c.in_ok-opened.opened.mirrors.items c.in_ok-posters.mirrors.items c.in_ok-ended.ended.kept.items
    c.of-whole_plan.ensures (ap (λ q. q.items) c.in_ok-posters.ensures.mirrors) many c.in_ok-opened.ensures.mirrors c.in_ok-ended.ensures.mirrors

pub settle_each-mirrors-requires-clause-fits : goal.settle_each-mirrors-requires-clause-fits
settle_each-mirrors-requires-clause-fits g c =
    let rows = each_length _ c.in_ok-posters.posters.items c.in_ok-ended.ended.rows.items c.in_ok-ended.ensures.posters in
    let posters = each_from_length _ 0 c.args.plan.posters.items c.in_ok-posters.posters.items c.in_ok-posters.ensures.posters in
    (c.in_ok-ended.ensures.room, omega (arith, rows, posters, c.len-count.ensures, c.in_ok-room.ensures.capacity), omega (arith, rows, posters, c.len-count.ensures, c.in_ok-room_for_ends.ensures.capacity))

pub settle_each-mirrors-requires-clause-fits_outcome : goal.settle_each-mirrors-requires-clause-fits_outcome
settle_each-mirrors-requires-clause-fits_outcome g c =
    let kept = each_length DoesTake c.in_ok-posters.mirrors.items c.in_ok-ended.ended.kept.items c.in_ok-ended.ensures.mirrors in
    let mirrors = each_length _ c.args.plan.mirrors.items c.in_ok-opened.opened.mirrors.items c.in_ok-opened.ensures.mirrors in
    omega (arith, kept, mirrors, ap (λ q. length q.items) c.in_ok-posters.ensures.mirrors, c.args.plan.room)

pub invariant_of-result : goal.invariant_of-result
invariant_of-result g c =
    let many : c.len-count.result ≡ length c.args.plan.posters.items = omega (arith, c.len-count.ensures) in
    record {
      complete = all_complete c.len-count.result (plan_texts c.args.plan) c.in_ok-opened.opened.mirrors.items c.settle_each-mirrors.result.items (many ∙ sym (length-map c.args.plan.posters.items (λ poster. poster.texts.value.items)))
          (run_done c.args.plan c.of-whole_plan.result.value c.len-count.result c.in_ok-opened.opened.mirrors.items c.in_ok-posters.mirrors.items c.in_ok-ended.ended.kept.items c.settle_each-mirrors.result.items
          c.of-whole_plan.ensures (ap (λ q. q.items) c.in_ok-posters.ensures.mirrors) many c.in_ok-opened.ensures.mirrors c.in_ok-ended.ensures.mirrors c.settle_each-mirrors.ensures);
    }

pub returns : goal.returns
returns g c =
    let many : c.len-count.result ≡ length c.args.plan.posters.items = omega (arith, c.len-count.ensures) in
    let kept = run_kept c.args.plan c.of-whole_plan.result.value c.len-count.result c.in_ok-opened.opened.mirrors.items c.in_ok-posters.mirrors.items c.in_ok-ended.ended.kept.items
    c.of-whole_plan.ensures (ap (λ q. q.items) c.in_ok-posters.ensures.mirrors) many c.in_ok-opened.ensures.mirrors c.in_ok-ended.ensures.mirrors in
    run_of c.len-count.result c.args.plan.expected c.args.plan.bound (plan_texts c.args.plan) c.args.plan.mirrors.items c.args.plan.policies.items c.in_ok-opened.opened.mirrors.items _ (many ∙ sym (length-map c.args.plan.posters.items (λ poster. poster.texts.value.items)))
    c.in_ok-opened.ensures.mirrors (c.in_ok-opened.ensures.policies ∙ c.deref.ensures.value)
    (run_done c.args.plan c.of-whole_plan.result.value c.len-count.result c.in_ok-opened.opened.mirrors.items c.in_ok-posters.mirrors.items c.in_ok-ended.ended.kept.items c.settle_each-mirrors.result.items
    c.of-whole_plan.ensures (ap (λ q. q.items) c.in_ok-posters.ensures.mirrors) many c.in_ok-opened.ensures.mirrors c.in_ok-ended.ensures.mirrors c.settle_each-mirrors.ensures)
    (fed_within (plan_texts c.of-whole_plan.result.value) c.args.plan.bound c.in_ok-ended.ended.kept.items _ (ap (λ q. q.items) c.of-kept.ensures)
    (subst (λ b. AllByRecursion (IsKept (plan_texts c.of-whole_plan.result.value) b) c.in_ok-ended.ended.kept.items) (ap plan_bound c.of-whole_plan.ensures) kept) c.settle_each-mirrors.ensures)
