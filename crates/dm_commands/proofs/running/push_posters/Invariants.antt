use Rattle.std.proofs.Common.{◌≡◌, ◌++◌, map, take}
use Rattle.dm_commands.specs.Running.{posters_text}
use Rattle.dm_commands.proofs.running.push_posters.Given as goal

abbrev pub invariant-loop-number : goal.invariant-loop-number
invariant-loop-number l = l.out.items ≡ l.fn.out.items ++ posters_text 0 (map (λ p. p.0.now) (take l.number l.posters))
