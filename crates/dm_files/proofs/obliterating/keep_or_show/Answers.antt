use Rattle.dm_store.specs.Keeping.{kept_as}
use Rattle.dm_files.proofs.LettingGoLemmas.{lets_stay}
use Rattle.dm_files.proofs.obliterating.keep_or_show.Goals as goal

pub returns-in_err-text-clause-any_moment : goal.returns-in_err-text-clause-any_moment
returns-in_err-text-clause-any_moment c =
    let store = c.args.store.now in
    lets_stay store (kept_as store.base c.args.stays.patches) c.args.saved.now c.requires.none c.requires.stored

pub returns-in_err-shown-clause-any_moment : goal.returns-in_err-shown-clause-any_moment
returns-in_err-shown-clause-any_moment c =
    let store = c.args.store.now in
    lets_stay store (kept_as store.base c.args.stays.patches) c.args.saved.now c.requires.none c.requires.stored

pub returns-in_err-write_text-clause-any_moment : goal.returns-in_err-write_text-clause-any_moment
returns-in_err-write_text-clause-any_moment c =
    let store = c.args.store.now in
    lets_stay store (kept_as store.base c.args.stays.patches) c.args.saved.now c.requires.none c.requires.stored

pub returns-then-asked-clause-any_moment : goal.returns-then-asked-clause-any_moment
returns-then-asked-clause-any_moment c =
    let store = c.args.store.now in
    lets_stay store (kept_as store.base c.args.stays.patches) c.args.saved.now c.requires.none c.requires.stored
