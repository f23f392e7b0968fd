use Rattle.std.proofs.Common.{◌∙◌, List, Some, ap}
use Rattle.dm_disk.specs.Events.{Event}
use Rattle.dm_files.proofs.DoneLemmas.{begun, not_begun}
use Rattle.dm_files.proofs.beginning.init.Goals as goal

pub returns-in-Ok : goal.returns-in-Ok
returns-in-Ok g c =
    let store = c.in-Ok.store in
    begun (g.F.Files.had c.args.files.now) c.args.asked.now store c.with_file.result c.in-Ok.ensures.kinds c.in-Ok.ensures.opened c.in-Ok.ensures.begun c.in-Ok.ensures.stored
    (c.with_file.ensures.file ∙ ap (λ (f : List Event). Some f) (c.close.ensures ∙ c.into_device.ensures))

pub returns-in-Err : goal.returns-in-Err
returns-in-Err g c = not_begun (g.F.Files.had c.args.files.now) c.args.asked.now c.without_file.result c.in-Err.fault c.without_file.ensures.answer c.without_file.ensures.file
