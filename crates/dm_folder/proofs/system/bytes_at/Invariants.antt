use Rattle.dm_folder.specs.Events.{IsLater}
use Rattle.dm_folder.specs.Listed.{IsReading}
use Rattle.dm_folder.proofs.system.bytes_at.Given as goal

abbrev pub invariant-loop : goal.invariant-loop
invariant-loop l = record {
  reading : IsReading l.place l.fn.log.events l.log.events l.bytes.items;
  later : IsLater l.fn.log.events l.log.events;
}
