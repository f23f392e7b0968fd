use Rattle.std.proofs.Common.{◌≡◌, drop}
use Rattle.dm_date.specs.Names.{name}
use Rattle.dm_date.proofs.names.name.Given as goal

abbrev pub invariant-loop-letter : goal.invariant-loop-letter
invariant-loop-letter l = name (drop l.letter-index l.letters) l.rest ≡ name l.letters l.text
