use Rattle.std.proofs.Common.{List, ℕ, subst}
use Rattle.dm_journal.specs.Faults.{BeginsWith}
use Rattle.dm_journal.proofs.Found.{begins_so, begins_otherwise}
use Rattle.dm_journal.proofs.reading.begins_with.Goals as goal

pub returns-clause-yes : goal.returns-clause-yes
returns-clause-yes c so =
    subst (λ (l : List ℕ). BeginsWith l c.args.bytes.now) c.line.ensures.is (begins_so c.args.bytes.now c.line.result.now c.starts_with.result c.starts_with.ensures.value so)

pub returns-clause-no : goal.returns-clause-no
returns-clause-no c not =
    subst (λ (l : List ℕ). ¬ BeginsWith l c.args.bytes.now) c.line.ensures.is (begins_otherwise c.args.bytes.now c.line.result.now c.starts_with.result c.starts_with.ensures.value not)
