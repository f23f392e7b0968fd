use Rattle.std.proofs.Common.{◌∙◌, sym}
use Rattle.dm_c.proofs.Giving.{given_of_held}
use Rattle.dm_c.proofs.file.dm_repo_file.Goals as goal

pub returns-clause-same : goal.returns-clause-same
returns-clause-same c = c.put.ensures ∙ sym c.in-Some.ensures.old

pub returns-clause-text : goal.returns-clause-text
returns-clause-text c =
    given_of_held _ _ _ _ _ _ _ _ _ _ c.in-Some.ensures.old c.give_text.ensures (rw (← c.deref.ensures) c.file-text.ensures.ok) (rw (← c.deref.ensures) c.file-text.ensures.err)
