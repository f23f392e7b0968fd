use Rattle.std.proofs.Common.{map, take}
use Rattle.dm_mirror.specs.Plans.{AreFew}
use Rattle.dm_mirror.proofs.plan.posters.are_few.Given as goal

abbrev pub invariant-loop-texts : goal.invariant-loop-texts
invariant-loop-texts l = AreFew (map (λ texts. map (λ text. text.now) texts.now) (take l.texts-index l.fn.posters))
