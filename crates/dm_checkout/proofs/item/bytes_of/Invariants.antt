use Rattle.std.proofs.Common.{◌≡◌, take}
use Rattle.dm_checkout.specs.Contents.{file_text}
use Rattle.dm_checkout.proofs.item.bytes_of.Given as goal

abbrev pub invariant-loop-i : goal.invariant-loop-i
invariant-loop-i g l = l.bytes.items ≡ file_text (take l.i l.file)
