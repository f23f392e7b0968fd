use Rattle.std.proofs.Common.{◌∙◌, sym}
use Rattle.dm_files.proofs.DoneLemmas.{not_opened}
use Rattle.dm_files.proofs.delivering.apply_to_mirror.Goals as goal
use Rattle.dm_files.proofs.delivering.apply_to_mirror.Goals.{then-asked, else-asked}

pub returns-in-Err : goal.returns-in-Err
returns-in-Err g c = not_opened (g.F.Files.had c.args.files.now) c.args.asked.now c.args.path.now c.without_file.result c.in-Err.fault c.without_file.ensures.answer c.without_file.ensures.file

pub returns-in-Ok : goal.returns-in-Ok
returns-in-Ok g c = elim c.if-asked.branch [
  | then-asked w ↦ rw (sym w.done-is ∙ c.in-Ok.is) at w.try_in_mirror-done.ensures
  | else-asked w ↦ rw (sym w.done-is ∙ c.in-Ok.is) at w.apply_in_mirror-done.ensures
]

pub returns-in-Err-done : goal.returns-in-Err-done
returns-in-Err-done g c =
    not_opened (g.F.Files.had c.args.files.now) c.args.asked.now c.args.path.now c.without_file-in-Err-done.result c.in-Err-done.fault c.without_file-in-Err-done.ensures.answer c.without_file-in-Err-done.ensures.file
