use Rattle.std.proofs.Common.{◌≡◌, ◌++◌}
use Rattle.dm_mirror.specs.Report.{receipts_text}
use Rattle.dm_mirror.proofs.report.push_receipts.Given as goal

abbrev pub invariant-loop-poster : goal.invariant-loop-poster
invariant-loop-poster l = l.out.items ≡ l.fn.out.items ++ receipts_text l.mirrors l.poster
