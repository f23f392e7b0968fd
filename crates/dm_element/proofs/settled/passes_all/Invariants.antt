use Rattle.std.proofs.Common.{◌++◌, take}
use Rattle.dm_element.specs.Elements as elements
use Rattle.dm_element.specs.Settled.{elements_in}
use Rattle.dm_element.specs.Values.{element_of, elements_of, patches_of}
use Rattle.dm_element.proofs.SettledLemmas.{Over}
use Rattle.dm_element.proofs.settled.passes_all.Given as goal

abbrev pub invariant-loop-patch : goal.invariant-loop-patch
invariant-loop-patch g l = Over (elements.Conflicted l.conflict) (elements_of l.rest ++ elements_in (patches_of (take l.patch-index l.later))) (element_of l.moved)
