use Rattle.std.proofs.Common.{◌≡◌, take}
use Rattle.std.specs.List.{join_by}
use Rattle.std.specs.Prelude.{codes}
use Rattle.dm_log.specs.Choices.{chosen, long_entry, placed_from}
use Rattle.dm_log.proofs.log.write_entries.Given as goal

abbrev pub invariant-loop-k : goal.invariant-loop-k
invariant-loop-k g l = l.text.items ≡ join_by (long_entry l.options) (codes "\n") (take l.k (chosen l.options (placed_from 1 (g.P.Patches.patches l.patches))))
