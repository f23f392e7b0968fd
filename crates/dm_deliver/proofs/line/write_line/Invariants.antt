use Rattle.std.proofs.Common.{length, ◌-◌, ◌≤◌, ◌≡◌, ◌++◌, take, List}
use Rattle.std.specs.Io.KnownBytes.{Appends}
use Rattle.dm_deliver.specs.Calls.{Call, taken_bytes}
use Rattle.dm_deliver.proofs.line.write_line.Given as goal

abbrev pub invariant-loop-written : goal.invariant-loop-written
invariant-loop-written g l =
    (l.written ≤ length l.line) × Appends (g.W.Write.contents l.fn.writer.writer) (g.W.Write.contents l.writer.writer) (take l.written l.line) ×
    ((since : List Call) × (l.writer.calls.list ≡ since ++ l.fn.writer.calls.list) × (taken_bytes since ≡ take l.written l.line))

abbrev pub decreases-loop-written : goal.decreases-loop-written
decreases-loop-written g l = length l.line - l.written
