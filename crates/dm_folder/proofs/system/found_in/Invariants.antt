use Rattle.std.proofs.Common.{◌≡◌, ◌++◌, map}
use Rattle.dm_folder.specs.Events.{IsLater}
use Rattle.dm_folder.specs.Found.{told}
use Rattle.dm_folder.specs.Listed.{IsAsked}
use Rattle.dm_folder.proofs.system.found_in.Given as goal

abbrev pub invariant-loop-name : goal.invariant-loop-name
invariant-loop-name l = record {
  can_next : (goal.iterator-loop-name).can_next l.name-iterator;
  is_finite : (goal.iterator-loop-name).is_finite l.name-iterator;
  asked : IsAsked l.place l.fn.log.events l.log.events (map told l.found.items);
  names : map (λ one. one.name.items) l.found.items ≡ map (λ name. name.items) l.yielded;
  later : IsLater l.fn.log.events l.log.events;
  whole : l.fn.names.items ≡ l.yielded ++ l.name-iterator.rest.items;
}
