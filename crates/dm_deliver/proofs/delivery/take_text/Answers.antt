use Rattle.dm_store.proofs.StoredLemmas.{crashes_keep}
use Rattle.dm_store.specs.Kinds.{kinds_in}
use Rattle.dm_store.specs.Keeping.{kept_in}
use Rattle.dm_deliver.specs.Answering.{PassesRules}
use Rattle.dm_deliver.proofs.AnswerLemmas.{leaves_either, untaken, unread, passed}
use Rattle.dm_deliver.proofs.delivery.take_text.Goals as goal

pub returns-in-Some-clause-any_moment : goal.returns-in-Some-clause-any_moment
returns-in-Some-clause-any_moment g c =
    let d = g.D.Device in
    let store = c.args.store.now in
    unread d.moment d.left_since d.may_leave g.met.D.Device.only_now (kinds_in store) store.journal (kept_in store) c.args.text.now c.args.policy c.args.rule
    (crashes_keep d.seen d.may_leave d.file_may_leave store.journal c.requires.entries (kept_in store) c.requires.has c.requires.folds)

pub returns-in-Some-clause-either : goal.returns-in-Some-clause-either
returns-in-Some-clause-either g c =
    let d = g.D.Device in
    let store = c.args.store.now in
    untaken d.moment d.left_since d.may_leave g.met.D.Device.only_now (kinds_in store) store.journal (kept_in store) (kept_in store)
    (crashes_keep d.seen d.may_leave d.file_may_leave store.journal c.requires.entries (kept_in store) c.requires.has c.requires.folds)

pub returns-in_err-verdict-clause-any_moment : goal.returns-in_err-verdict-clause-any_moment
returns-in_err-verdict-clause-any_moment g c =
    let d = g.D.Device in
    let store = c.args.store.now in
    let passes : PassesRules (kinds_in c.args.store.now) (kept_in c.args.store.now) c.args.rule c.args.text.now = rw c.kinds.ensures at (rw c.base.ensures at (rw c.repo.ensures at (rw c.in_default.is at c.in_ok-answer.ensures.none))) in
    passed d.moment d.left_since d.may_leave g.met.D.Device.only_now (kinds_in store) store.journal.device c.take.new.self.journal.device (kept_in store) c.args.text.now c.args.policy c.args.rule passes c.take.ensures.any_moment

pub returns-then-eq-clause-any_moment : goal.returns-then-eq-clause-any_moment
returns-then-eq-clause-any_moment g c =
    let d = g.D.Device in
    let store = c.args.store.now in
    let passes : PassesRules (kinds_in c.args.store.now) (kept_in c.args.store.now) c.args.rule c.args.text.now = rw c.kinds.ensures at (rw c.base.ensures at (rw c.repo.ensures at (rw c.in_default.is at c.in_ok-answer.ensures.none))) in
    passed d.moment d.left_since d.may_leave g.met.D.Device.only_now (kinds_in store) store.journal.device c.take.new.self.journal.device (kept_in store) c.args.text.now c.args.policy c.args.rule passes c.take.ensures.any_moment

pub returns-clause-answers : goal.returns-clause-answers
returns-clause-answers g c =
    let passes : PassesRules (kinds_in c.args.store.now) (kept_in c.args.store.now) c.args.rule c.args.text.now = rw c.kinds.ensures at (rw c.base.ensures at (rw c.repo.ensures at (rw c.in_default.is at c.in_ok-answer.ensures.none))) in
    (passes, c.in_ok-verdict.ensures.takes, c.take.ensures.base)

pub returns-clause-any_moment : goal.returns-clause-any_moment
returns-clause-any_moment g c =
    let d = g.D.Device in
    let store = c.args.store.now in
    let passes : PassesRules (kinds_in c.args.store.now) (kept_in c.args.store.now) c.args.rule c.args.text.now = rw c.kinds.ensures at (rw c.base.ensures at (rw c.repo.ensures at (rw c.in_default.is at c.in_ok-answer.ensures.none))) in
    passed d.moment d.left_since d.may_leave g.met.D.Device.only_now (kinds_in store) store.journal.device c.take.new.self.journal.device (kept_in store) c.args.text.now c.args.policy c.args.rule passes c.take.ensures.any_moment

pub returns-clause-either : goal.returns-clause-either
returns-clause-either g c =
    let d = g.D.Device in
    let store = c.args.store.now in
    leaves_either d.moment d.left_since d.may_leave g.met.D.Device.only_now (kinds_in store) store.journal c.take.new.self.journal (kept_in store) c.args.text.now c.args.policy c.in_ok-verdict.verdict (kept_in c.take.new.self)
    c.in_ok-verdict.ensures.takes c.take.ensures.base
    (crashes_keep d.seen d.may_leave d.file_may_leave store.journal c.requires.entries (kept_in store) c.requires.has c.requires.folds)
    c.in_ok-verdict.ensures.unwritten
    c.take.ensures.any_moment
