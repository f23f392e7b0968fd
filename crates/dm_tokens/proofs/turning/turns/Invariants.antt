use Rattle.std.proofs.Common.{◌≡◌, ◌||◌, length}
use Rattle.dm_tokens.specs.Sets.{in_table}
use Rattle.dm_tokens.specs.Walks.{has}
use Rattle.dm_tokens.proofs.turning.turns.Given as goal

abbrev pub invariant-loop-old : goal.invariant-loop-old
invariant-loop-old l = record {
  new_left : has (in_table l.set) l.text l.new ≡ has (in_table l.set) l.rest l.new;
  old_left : has (in_table l.set) l.text l.old ≡ (l.has_old || has (in_table l.set) l.rest l.old);
}

abbrev pub decreases-loop-old : goal.decreases-loop-old
decreases-loop-old l = length l.rest
