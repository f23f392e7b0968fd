use Rattle.std.proofs.Common.{take}
use Rattle.dm_element.specs.Values.{element_of, elements_of}
use Rattle.dm_element.proofs.SettledLemmas.{Over}
use Rattle.dm_element.proofs.settled.pass_over.Given as goal

abbrev pub invariant-loop-second : goal.invariant-loop-second
invariant-loop-second g l = Over (element_of l.fn.first) (elements_of (take l.second-index l.row)) (element_of l.first)
