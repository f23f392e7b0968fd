use Rattle.dm_store.specs.Keeping.{kept_in}
use Rattle.dm_store.specs.Kinds.{kinds_in}
use Rattle.dm_store.proofs.KeptBase.{fold_base}
use Rattle.dm_files.proofs.mirror.read_repo.Goals as goal

pub returns : goal.returns
returns c =
    let store = c.in_ok-store.store in
    let stored = c.in_ok-store.ensures in
    rw (c.into_parts-repo.ensures.repo, c.base-base.ensures) (fold_base (kinds_in store) stored.entries (kept_in store) stored.folds)
