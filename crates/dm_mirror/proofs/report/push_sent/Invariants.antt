use Rattle.std.proofs.Common.{◌≡◌, ◌++◌, take}
use Rattle.dm_mirror.specs.Report.{sent_text}
use Rattle.dm_mirror.proofs.report.push_sent.Given as goal

abbrev pub invariant-loop-number : goal.invariant-loop-number
invariant-loop-number l = l.out.items ≡ l.fn.out.items ++ sent_text l.poster 0 (take l.number l.mirrors)
