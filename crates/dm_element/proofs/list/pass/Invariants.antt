use Rattle.std.proofs.Common.{◌≡◌, length}
use Rattle.dm_element.specs.Elements.{ElementCommutes}
use Rattle.dm_element.specs.Values.{element_of, elements_of}
use Rattle.dm_element.proofs.RowLemmas.{PassedSome}
use Rattle.dm_element.proofs.list.pass.Given as goal

abbrev pub invariant-loop-i : goal.invariant-loop-i
invariant-loop-i g l = PassedSome ElementCommutes (element_of l.fn.first) (elements_of l.fn.row.items) (elements_of l.row.items) (element_of l.first) l.i × (l.i-end ≡ length l.fn.row.items)
