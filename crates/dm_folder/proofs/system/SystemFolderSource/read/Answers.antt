use Rattle.dm_folder.proofs.EventLemmas.{later_keeps}
use Rattle.dm_folder.proofs.system.SystemFolderSource.read.Goals as goal

pub returns-clause-keeps : goal.returns-clause-keeps
returns-clause-keeps c = rw (← c.self.view_is) (later_keeps c.read_at.ensures.later)
