use Rattle.dm_files.proofs.DoneLemmas.{not_obliterated}
use Rattle.dm_files.proofs.obliterating.obliterate_chosen.Goals as goal

pub returns-in-Err : goal.returns-in-Err
returns-in-Err c = not_obliterated c.args.asked.now c.without_file.result c.in-Err.fault c.without_file.ensures.answer c.without_file.ensures.file
