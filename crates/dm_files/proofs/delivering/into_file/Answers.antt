use Rattle.dm_disk.specs.States.{seen, may_leave, file_may_leave}
use Rattle.dm_store.specs.Keeping.{KeepsRepo, kept_in}
use Rattle.dm_store.specs.Kinds.{kinds_in}
use Rattle.dm_store.proofs.StoredLemmas.{crashes_keep}
use Rattle.dm_files.proofs.LettingGoLemmas.{left_keeps, still_keeps}
use Rattle.dm_files.proofs.delivering.into_file.Goals as goal

pub returns-then-not-wants_checkpoint-clause-kept : goal.returns-then-not-wants_checkpoint-clause-kept
returns-then-not-wants_checkpoint-clause-kept c =
    let store = c.args.store in
    rw c.into_device-file.ensures (crashes_keep seen may_leave file_may_leave store.journal c.requires.entries (kept_in store) c.requires.has c.requires.folds)

pub returns-then-not-wants_checkpoint-clause-any_moment : goal.returns-then-not-wants_checkpoint-clause-any_moment
returns-then-not-wants_checkpoint-clause-any_moment c =
    let store = c.args.store in
    rw c.into_device-file.ensures (still_keeps store (λ file. KeepsRepo (kinds_in store) file (kept_in store)) (λ file keeps. keeps) c.requires)

pub returns-clause-kept : goal.returns-clause-kept
returns-clause-kept c =
    let store = c.args.store in
    rw c.into_device-file-2.ensures (left_keeps store.journal.device c.checkpoint-done.new.self.journal.device (kinds_in store) (kept_in store) c.checkpoint-done.ensures.any_moment)

pub returns-clause-any_moment : goal.returns-clause-any_moment
returns-clause-any_moment c = rw c.into_device-file-2.ensures c.checkpoint-done.ensures.any_moment
