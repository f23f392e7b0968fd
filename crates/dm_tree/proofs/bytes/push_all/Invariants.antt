use Rattle.std.proofs.Common.{◌≡◌, ◌++◌, take}
use Rattle.dm_tree.proofs.bytes.push_all.Given as goal

abbrev pub invariant-loop-text : goal.invariant-loop-text
invariant-loop-text g l = l.copies.items ≡ l.fn.copies.items ++ take l.text-index l.texts
