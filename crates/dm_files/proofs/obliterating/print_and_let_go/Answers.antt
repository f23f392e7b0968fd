use Rattle.dm_store.specs.Keeping.{kept_as}
use Rattle.dm_files.proofs.LettingGoLemmas.{stays_either}
use Rattle.dm_files.proofs.obliterating.print_and_let_go.Goals as goal

pub returns-in_err-write_text-clause-any_moment : goal.returns-in_err-write_text-clause-any_moment
returns-in_err-write_text-clause-any_moment c =
    let store = c.args.store.now in
    stays_either store (kept_as store.base c.args.stays.patches) c.requires
