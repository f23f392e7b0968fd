use Rattle.std.proofs.Common.{◌≡◌, map, take}
use Rattle.dm_folder.proofs.walking.parts_of.Given as goal

abbrev pub invariant-loop-i : goal.invariant-loop-i
invariant-loop-i l = map (λ v. v.items) l.names.items ≡ take l.i l.path
