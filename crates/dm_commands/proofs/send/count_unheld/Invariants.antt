use Rattle.std.proofs.Common.{◌≤◌, take}
use Rattle.dm_commands.specs.Sending.{CountsUnheld}
use Rattle.dm_commands.proofs.send.count_unheld.Given as goal

abbrev pub invariant-loop-name : goal.invariant-loop-name
invariant-loop-name l = (l.unheld ≤ l.name-index) × CountsUnheld l.repo.patches (take l.name-index l.names) l.unheld
