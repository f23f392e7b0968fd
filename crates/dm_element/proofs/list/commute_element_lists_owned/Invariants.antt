use Rattle.std.proofs.Common.{◌≡◌, length}
use Rattle.dm_element.specs.Elements.{ElementCommutes}
use Rattle.dm_element.specs.Values.{elements_of}
use Rattle.dm_element.proofs.RowLemmas.{CommutedSome}
use Rattle.dm_element.proofs.list.commute_element_lists_owned.Given as goal

abbrev pub invariant-loop-i : goal.invariant-loop-i
invariant-loop-i g l = CommutedSome ElementCommutes (elements_of l.fn.es.items) (elements_of l.fn.fs.items) (elements_of l.row.items) (elements_of l.moved.items) l.i × (l.i-end ≡ length l.fn.es.items)
