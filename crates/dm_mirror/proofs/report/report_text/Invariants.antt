use Rattle.std.proofs.Common.{take}
use Rattle.dm_mirror.specs.Report.{AreMirrorTexts}
use Rattle.dm_mirror.proofs.report.report_text.Given as goal

abbrev pub invariant-loop-number : goal.invariant-loop-number
invariant-loop-number l = AreMirrorTexts l.outcome.posters 0 (take l.number l.outcome.mirrors.items) l.text.items
