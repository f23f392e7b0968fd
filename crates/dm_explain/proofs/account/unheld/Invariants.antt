use Rattle.std.proofs.Common.{take}
use Rattle.dm_repo.specs.Repositories.{Holds}
use Rattle.dm_explain.specs.Fates.{AreChosen, lent}
use Rattle.dm_explain.proofs.account.unheld.Given as goal

abbrev pub invariant-loop-name : goal.invariant-loop-name
invariant-loop-name l = AreChosen (λ i. Holds l.repo.patches i → ⊥) (take l.name-index l.names) (lent l.missing.items)
