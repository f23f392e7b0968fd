use Rattle.std.proofs.Common.{◌≡◌, ◌++◌}
use Rattle.std.specs.List.{flat_map}
use Rattle.dm_log.specs.Shown.{shown_char}
use Rattle.dm_log.proofs.shown.push_chars.Given as goal

abbrev pub invariant-loop-c : goal.invariant-loop-c
invariant-loop-c g l = l.out.items ≡ l.fn.out.items ++ flat_map shown_char l.yielded
