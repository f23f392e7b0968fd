use Rattle.std.proofs.Common.{◌≡◌, ◌++◌, take}
use Rattle.std.specs.List.{flat_map}
use Rattle.dm_scratch.proofs.PrintLemmas.{row_line}
use Rattle.dm_scratch.proofs.printing.push_listing.Given as goal

abbrev pub invariant-loop-entry : goal.invariant-loop-entry
invariant-loop-entry l = l.out.items ≡ l.fn.out.items ++ flat_map row_line (take l.entry-index l.entry-items)
