use Rattle.std.proofs.Common.{List, drop, ◌≤◌}
use Rattle.dm_named.specs.Patches.{Patch}
use Rattle.dm_named.specs.Commuting.{NamedCommutes}
use Rattle.dm_send.specs.Minimizing.{Minimizes}
use Rattle.dm_send.proofs.minimizing.minimize.Given as goal

abbrev pub invariant-loop-k : goal.invariant-loop-k
invariant-loop-k g l = record {
  within : l.first ≤ l.k;
  minimizes : (gone : List Patch) × Minimizes NamedCommutes (drop l.k l.shared.patches) l.fn.new.items l.needed.items l.sent.items gone;
}
