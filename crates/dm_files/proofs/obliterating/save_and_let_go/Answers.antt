use Rattle.std.proofs.Common.{◌∙◌, List, Some, ap, refl}
use Rattle.dm_disk.specs.Events.{Event}
use Rattle.dm_disk.specs.States.{opened_by}
use Rattle.dm_store.specs.Keeping.{kept_as}
use Rattle.dm_files.proofs.DoneLemmas.{named_since}
use Rattle.dm_files.proofs.LettingGoLemmas.{lets_save, lets_stay}
use Rattle.dm_files.proofs.MirrorLemmas.{if_ok_is}
use Rattle.dm_files.proofs.obliterating.save_and_let_go.Goals as goal

pub returns-in_err-file-clause-any_moment : goal.returns-in_err-file-clause-any_moment
returns-in_err-file-clause-any_moment c =
    let store = c.args.store.now in
    lets_stay store (kept_as store.base c.args.stays.patches) c.args.saved.now c.requires.none c.requires.stored

pub returns-in_err-done-clause-any_moment : goal.returns-in_err-done-clause-any_moment
returns-in_err-done-clause-any_moment c =
    let store = c.args.store.now in
    let done = c.keep_in_file-done in
    lets_save store done.new.store (kept_as store.base c.args.stays.patches) (Some c.close.result) done.new.file (ap (λ (f : List Event). Some f) c.close.ensures) done.ensures.any_moment

pub returns-clause-any_moment : goal.returns-clause-any_moment
returns-clause-any_moment c =
    let store = c.args.store.now in
    let done = c.keep_in_file-done in
    lets_save store done.new.store (kept_as store.base c.args.stays.patches) (Some c.close.result) done.new.file (ap (λ (f : List Event). Some f) c.close.ensures) done.ensures.any_moment

pub returns-clause-keeps : goal.returns-clause-keeps
returns-clause-keeps c = if_ok_is c.print_gone.result (λ u is. c.in_ok-done.ensures.keeps)

pub returns-clause-saved : goal.returns-clause-saved
returns-clause-saved c = if_ok_is c.print_gone.result (λ u is. (
  c.close.result,
  refl,
  ap opened_by c.close.ensures ∙ named_since c.args.name.now _ c.in_ok-file.file c.keep_in_file-done.new.file c.in_ok-file.ensures.fresh c.keep_in_file-done.ensures.file,
  rw c.close.ensures c.in_ok-done.ensures.saved,
))
