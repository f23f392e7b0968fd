use Rattle.std.proofs.Common.{subst}
use Rattle.dm_named.specs.declared.limits.Kinds.{Kinds}
use Rattle.dm_journal.specs.Device.{LeavesOnly}
use Rattle.dm_disk.specs.States.{may_leave, left_since, moment}
use Rattle.dm_store.specs.Keeping.{CrashesKeep, KeepsRepo, kept_in}
use Rattle.dm_store.specs.Kinds.{kinds_in}
use Rattle.dm_files.specs.Named.{CameAtMost}
use Rattle.dm_files.proofs.MirrorLemmas.{then_kept}
use Rattle.dm_files.proofs.NamedLemmas.{at_most}
use Rattle.dm_files.proofs.delivering.take_into.Goals as goal

pub returns-in-Ok-clause-answers : goal.returns-in-Ok-clause-answers
returns-in-Ok-clause-answers g c =
    let new = c.take_and_show.new.store in (
      kept_in new,
      c.in-Ok.ensures.answers,
      subst (λ (k : Kinds). CrashesKeep k may_leave c.into_file.result (kept_in new)) c.take_and_show.ensures.kinds c.into_file.ensures.kept,
    )

pub returns-in-Ok-clause-any_moment : goal.returns-in-Ok-clause-any_moment
returns-in-Ok-clause-any_moment g c =
    let old = c.args.store in
    let new = c.take_and_show.new.store in
    let all = c.in-Ok.ensures.answers in
    then_kept moment left_since (CameAtMost (g.F.Files.had c.args.files.now) c.args.asked.now) (kinds_in old) c.args.policy c.args.rule (kept_in old) (kept_in new) old.journal.device new.journal.device c.into_file.result
    all.texts all.answers (at_most (g.F.Files.had c.args.files.now) c.args.asked.now all.texts all.came) all.takes c.take_and_show.ensures.any_moment
    (subst (λ (k : Kinds). LeavesOnly moment left_since new.journal.device c.into_file.result (λ file. KeepsRepo k file (kept_in new))) c.take_and_show.ensures.kinds c.into_file.ensures.any_moment)

pub returns-in-Err-Beside-clause-answers_err : goal.returns-in-Err-Beside-clause-answers_err
returns-in-Err-Beside-clause-answers_err g c =
    let new = c.take_and_show.new.store in
    λ goes. (
      kept_in new,
      (rw c.in-Err-Beside.field-0-is at c.in-Err-Beside.ensures.answers_err) tt,
      subst (λ (k : Kinds). CrashesKeep k may_leave c.into_file-in-Err-Beside.result (kept_in new)) c.take_and_show.ensures.kinds c.into_file-in-Err-Beside.ensures.kept,
    )

pub returns-in-Err-Beside-clause-any_moment : goal.returns-in-Err-Beside-clause-any_moment
returns-in-Err-Beside-clause-any_moment g c =
    let old = c.args.store in
    let new = c.take_and_show.new.store in
    let some = (rw c.in-Err-Beside.field-0-is at c.in-Err-Beside.ensures.answers_err) tt in
    then_kept moment left_since (CameAtMost (g.F.Files.had c.args.files.now) c.args.asked.now) (kinds_in old) c.args.policy c.args.rule (kept_in old) (kept_in new) old.journal.device new.journal.device c.into_file-in-Err-Beside.result
    some.texts some.answers some.came some.takes c.take_and_show.ensures.any_moment
    (subst (λ (k : Kinds). LeavesOnly moment left_since new.journal.device c.into_file-in-Err-Beside.result (λ file. KeepsRepo k file (kept_in new))) c.take_and_show.ensures.kinds c.into_file-in-Err-Beside.ensures.any_moment)
