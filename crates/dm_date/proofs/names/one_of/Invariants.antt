use Rattle.std.proofs.Common.{◌≡◌, drop, map}
use Rattle.dm_date.specs.Names.{one_of}
use Rattle.dm_date.proofs.names.one_of.Given as goal

abbrev pub invariant-loop-first : goal.invariant-loop-first
invariant-loop-first l = one_of (map (λ x. x.now) (drop l.first-index l.names)) l.text ≡ one_of (map (λ x. x.now) l.names) l.text
