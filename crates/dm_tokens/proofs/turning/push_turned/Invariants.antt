use Rattle.std.proofs.Common.{◌≡◌, ◌++◌, ℕ, List, length}
use Rattle.dm_tokens.specs.Sets.{in_table}
use Rattle.dm_tokens.specs.Walks.{turned}
use Rattle.dm_tokens.proofs.turning.push_turned.Given as goal

abbrev pub invariant-loop-rest : goal.invariant-loop-rest
invariant-loop-rest g l =
    (done : List ℕ) × (l.out.items ≡ l.fn.out.items ++ done) × (done ++ turned (in_table l.set) l.old l.new l.rest ≡ turned (in_table l.set) l.old l.new l.text)

abbrev pub decreases-loop-rest : goal.decreases-loop-rest
decreases-loop-rest g l = length l.rest
