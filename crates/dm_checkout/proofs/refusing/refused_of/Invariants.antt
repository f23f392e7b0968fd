use Rattle.std.proofs.Common.{◌≡◌, take, map}
use Rattle.dm_checkout.specs.Faults.{told}
use Rattle.dm_checkout.specs.Repositories.{refused_among}
use Rattle.dm_checkout.proofs.refusing.refused_of.Given as goal

abbrev pub invariant-loop-row : goal.invariant-loop-row
invariant-loop-row g l = told l.list.items ≡ refused_among (map (λ row. row.path) l.rows) (map (λ row. row.path) (take l.row-index l.rows))
