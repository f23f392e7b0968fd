use Rattle.std.proofs.Common.{◌^◌, arith}
use Rattle.dm_store.proofs.GrowthLemmas.{large_if_many, large_iff}
use Rattle.dm_store.proofs.store.Store.wants_checkpoint.Goals as goal

pub returns-clause-many : goal.returns-clause-many
returns-clause-many g c = λ stored.
    let many = large_if_many (2 ^ 4) (2 ^ 20) (omega arith) (omega arith) stored.entries c.args.self.now.growth stored.grown in
    let large = rw c.max.ensures at c.is_large.ensures in
    (λ yes. many.0 (large.0 yes), λ are. large.1 (many.1 are))

pub returns-clause-grown : goal.returns-clause-grown
returns-clause-grown g c =
    let either = large_iff (2 ^ 4) (2 ^ 20) (omega arith) c.args.self.now.growth in
    let large = rw c.max.ensures at c.is_large.ensures in
    (λ yes. either.0 (large.0 yes), λ are. large.1 (either.1 are))
