use Rattle.std.proofs.Common.{◌≡◌, ◌++◌, take, map}
use Rattle.dm_checkout.specs.Made.{made_of, rows}
use Rattle.dm_checkout.proofs.writing.write_rows.Given as goal

abbrev pub invariant-loop-i : goal.invariant-loop-i
invariant-loop-i g l = g.D.Disk.made l.disk ≡ g.D.Disk.made l.fn.disk ++ map (made_of l.folder) (take l.i (rows l.tree))
