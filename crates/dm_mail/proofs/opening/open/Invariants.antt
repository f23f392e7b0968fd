use Rattle.dm_mail.proofs.opening.open.Given as goal

abbrev pub ghosts-open_within : goal.ghosts-open_within
ghosts-open_within g a = record { bound = a.bound }
