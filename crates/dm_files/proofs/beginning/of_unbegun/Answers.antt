use Rattle.dm_files.proofs.beginning.of_unbegun.Goals as goal

pub returns-in-Kept : goal.returns-in-Kept
returns-in-Kept c = λ bytes told. c.of_kept.ensures.tells bytes (rw c.in-Kept.is at told)

pub returns-in-Unwritten : goal.returns-in-Unwritten
returns-in-Unwritten c = λ bytes told. c.blame.ensures bytes tt
