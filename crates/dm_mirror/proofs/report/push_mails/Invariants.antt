use Rattle.std.proofs.Common.{◌≡◌, ◌++◌, take}
use Rattle.dm_mirror.specs.Report.{mails_text}
use Rattle.dm_mirror.proofs.report.push_mails.Given as goal

abbrev pub invariant-loop-k : goal.invariant-loop-k
invariant-loop-k l = l.out.items ≡ l.fn.out.items ++ mails_text (take l.k l.mails) (take l.k l.verdicts)
