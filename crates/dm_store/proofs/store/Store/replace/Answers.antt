use Rattle.dm_store.specs.Keeping.{kept_in}
use Rattle.dm_store.proofs.StoredLemmas.{keeps}
use Rattle.dm_store.proofs.store.Store.replace.Goals as goal

pub returns-in_err-growth-clause-any_moment : goal.returns-in_err-growth-clause-any_moment
returns-in_err-growth-clause-any_moment g c =
    let d = g.D.Device in
    let kept = kept_in c.args.self.now in
    c.put_repo.ensures.any_moment kept (keeps d.seen d.may_leave d.file_may_leave c.args.self.now.journal c.requires.entries kept c.requires.has c.requires.folds)

pub returns-in_default-clause-any_moment : goal.returns-in_default-clause-any_moment
returns-in_default-clause-any_moment g c =
    let d = g.D.Device in
    let kept = kept_in c.args.self.now in
    c.put_repo.ensures.any_moment kept (keeps d.seen d.may_leave d.file_may_leave c.args.self.now.journal c.requires.entries kept c.requires.has c.requires.folds)

pub returns-clause-any_moment : goal.returns-clause-any_moment
returns-clause-any_moment g c =
    let d = g.D.Device in
    let kept = kept_in c.args.self.now in
    c.put_repo.ensures.any_moment kept (keeps d.seen d.may_leave d.file_may_leave c.args.self.now.journal c.requires.entries kept c.requires.has c.requires.folds)
