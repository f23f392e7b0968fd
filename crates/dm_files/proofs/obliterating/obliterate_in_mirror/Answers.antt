use Rattle.std.proofs.Common.{◌∙◌, List, Some, ap, refl}
use Rattle.dm_disk.specs.Events.{Event}
use Rattle.dm_files.proofs.DoneLemmas.{obliterated, opened_kept}
use Rattle.dm_files.proofs.obliterating.obliterate_in_mirror.Goals as goal

pub returns : goal.returns
returns c =
    let store = c.in_ok-store.store in
    let taken = c.take_chosen-taken in
    obliterated c.args.asked.now store taken.new.store.journal.device taken.new.saved taken.result _
    (opened_kept c.args.asked.now.mirror.now _ c.in_ok-file.file store c.in_ok-file.ensures.fresh c.in_ok-store.ensures.keeps c.in_ok-store.ensures.untouched)
    (ap (λ (f : List Event). Some f) (c.close.ensures ∙ c.into_device-file.ensures)) refl c.status_of_taking-answer.ensures taken.ensures.goes taken.ensures.any_moment
