use Rattle.dm_store.specs.Keeping.{kept_as}
use Rattle.dm_files.proofs.LettingGoLemmas.{lets_print, lets_stay}
use Rattle.dm_files.proofs.obliterating.keep_where_said.Goals as goal
use Rattle.dm_files.proofs.obliterating.keep_where_said.Goals.{in-Some+in_ok-save_and_let_go-in-Some, in-None+in_ok-shown-in-None+in_ok-print_and_let_go-in-None}

pub returns-in_err-shown-in-None-clause-any_moment : goal.returns-in_err-shown-in-None-clause-any_moment
returns-in_err-shown-in-None-clause-any_moment c =
    let store = c.args.store.now in
    lets_stay store (kept_as store.base c.args.stays.patches) c.args.saved.now c.requires.none c.requires.stored

pub returns-in_err-print_and_let_go-in-None-clause-any_moment : goal.returns-in_err-print_and_let_go-in-None-clause-any_moment
returns-in_err-print_and_let_go-in-None-clause-any_moment c =
    let store = c.args.store.now in
    lets_print store c.print_and_let_go.new.store (kept_as store.base c.args.stays.patches) c.args.saved.now c.requires.none c.print_and_let_go.ensures.any_moment

pub returns-clause-keeps : goal.returns-clause-keeps
returns-clause-keeps c = elim c.match-asked.branch [
  | in-Some+in_ok-save_and_let_go-in-Some w ↦ rw w.store-is w.in_ok-save_and_let_go-in-Some.ensures.keeps
  | in-None+in_ok-shown-in-None+in_ok-print_and_let_go-in-None w ↦ rw w.store-is w.in_ok-print_and_let_go-in-None.ensures.keeps
]

pub returns-clause-any_moment : goal.returns-clause-any_moment
returns-clause-any_moment c =
    let store = c.args.store.now in
    elim c.match-asked.branch [
      | in-Some+in_ok-save_and_let_go-in-Some w ↦ rw (w.store-is, w.saved-is) w.save_and_let_go.ensures.any_moment
      | in-None+in_ok-shown-in-None+in_ok-print_and_let_go-in-None w ↦
          rw (w.store-is, w.saved-is) (lets_print store w.print_and_let_go.new.store (kept_as store.base c.args.stays.patches) c.args.saved.now c.requires.none w.print_and_let_go.ensures.any_moment)
    ]

pub returns-clause-saved : goal.returns-clause-saved
returns-clause-saved c = elim c.match-asked.branch [
  | in-Some+in_ok-save_and_let_go-in-Some w ↦ rw (w.in-Some.is, w.saved-is) w.in_ok-save_and_let_go-in-Some.ensures.saved
  | in-None+in_ok-shown-in-None+in_ok-print_and_let_go-in-None w ↦ rw w.in-None.is tt
]
