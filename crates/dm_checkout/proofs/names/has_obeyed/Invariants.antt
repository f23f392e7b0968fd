use Rattle.std.proofs.Common.{◌≡◌, take, false}
use Rattle.std.specs.List.{list_any}
use Rattle.dm_checkout.specs.Names.{is_obeyed}
use Rattle.dm_checkout.proofs.names.has_obeyed.Given as goal

abbrev pub invariant-loop-i : goal.invariant-loop-i
invariant-loop-i g l = list_any is_obeyed (take l.i l.path) ≡ false
