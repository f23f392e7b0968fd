use Rattle.std.proofs.Common.{◌≡◌, take}
use Rattle.dm_begin.proofs.sharing.copies_of.Given as goal

abbrev pub invariant-loop-name : goal.invariant-loop-name
invariant-loop-name g l = l.copies.items ≡ take l.name-index l.names
