-- What contracts see of a file in memory.
use Rattle.std.specs.Prelude.{ℕ, List}
use Rattle.dm_journal.specs.declared.memory.Memory.{Memory}

-- what a read of a file in memory returns
abbrev pub memory_bytes : Memory → List ℕ
memory_bytes m = m.bytes.items
