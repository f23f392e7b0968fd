use Rattle.std.proofs.Common.{take}
use Rattle.dm_explain.specs.Skips.{NamesEach}
use Rattle.dm_explain.proofs.skips.skips_of.Given as goal

abbrev pub invariant-loop-skip : goal.invariant-loop-skip
invariant-loop-skip l = NamesEach l.repo.patches l.bundle (take l.skip-index l.skips) l.list.items
