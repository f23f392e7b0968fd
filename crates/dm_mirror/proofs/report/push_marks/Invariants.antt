use Rattle.std.proofs.Common.{◌≡◌, ◌++◌}
use Rattle.dm_mirror.specs.Report.{closed_text}
use Rattle.dm_mirror.proofs.report.push_marks.Given as goal

abbrev pub invariant-loop-poster : goal.invariant-loop-poster
invariant-loop-poster l = l.out.items ≡ l.fn.out.items ++ closed_text l.mirror.mails.items l.poster
