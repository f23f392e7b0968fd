use Rattle.std.proofs.Common.{◌≡◌, flat_map}
use Rattle.dm_checkout.specs.Seen.{compared}
use Rattle.dm_checkout.proofs.seen.compared_of.Given as goal

abbrev pub invariant-loop-c : goal.invariant-loop-c
invariant-loop-c l = l.compares.items ≡ flat_map compared l.yielded
