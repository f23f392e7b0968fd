use Rattle.std.proofs.Common.{map, take}
use Rattle.dm_scratch.specs.Taking.{TakesEach}
use Rattle.dm_scratch.proofs.trial.take_each.Given as goal

abbrev pub invariant-loop-i : goal.invariant-loop-i
invariant-loop-i g l = TakesEach l.fn.repo.patches (map (λ text. text.now) (take l.i l.fn.texts)) l.fn.policy (take l.i l.verdicts) l.repo.patches
