use Rattle.std.proofs.Common.{◌≡◌, ◌≤◌, true, length, arith, rules, tests}
use Rattle.dm_date.specs.Readable.{is_readable}
use Rattle.dm_deliver.proofs.DateLemmas.{readable_all, readable_next}
use Rattle.dm_deliver.proofs.date_rule.first_unread.Goals as goal

pub loop-patch-preserved : goal.loop-patch-preserved
loop-patch-preserved c =
    let good : is_readable c.patch-item.result.info.date ≡ true = search (rules, tests) in
    readable_next c.args.patches.now c.loop-patch.patch-index c.patch-item.result c.patch-item.is good c.loop-patch.invariant

pub returns-clause-none : goal.returns-clause-none
returns-clause-none c =
    let done : length c.args.patches.now ≤ c.loop-patch.patch-index = omega (arith, c.loop-patch-test.false) in
    readable_all c.args.patches.now c.loop-patch.patch-index done c.loop-patch.invariant
