use Rattle.dm_deliver.proofs.DateLemmas.{ReadableTo}
use Rattle.dm_deliver.proofs.date_rule.first_unread.Given as goal

abbrev pub invariant-loop-patch : goal.invariant-loop-patch
invariant-loop-patch l = ReadableTo l.patches l.patch-index
