use Rattle.std.proofs.Common.{drop, map, ◌≢◌, ◌<◌, List, [], ◌∷◌, length, refl, arith}
use Rattle.dm_repo.specs.declared.policy.Policy.TheVariants.{Skip}
use Rattle.dm_repo.specs.Merging.{MergePastStops}
use Rattle.dm_repo.specs.Sifting.{ConflictsUnder}
use Rattle.dm_repo.specs.Squares.{PlacedMerges, undone}
use Rattle.dm_repo.proofs.SiftLemmas.{first_of, first_merges}
use Rattle.dm_repo.proofs.Splits.{blocks_at}
use Rattle.dm_repo.proofs.sifting.first_conflict.Goals as goal

some_long : {X : Type 0} (xs : List X) → xs ≢ [] → 0 < length xs
some_long [] some = absurd (some refl)
some_long (x ∷ xs) some = omega arith

pub unreachable-requires : goal.unreachable-requires
unreachable-requires g c = first_merges c.args.new.now c.index-new-0.result c.requires.some c.index-new-0.is c.requires.none_merged.1 c.in-Ok.ensures

pub returns : goal.returns
returns g c =
    let new = c.args.new.now in
    let rest = map undone c.args.rest.now in
    rw (c.blocked.ensures, ← c.index-new-0.is)
    (blocks_at c.index-new-0.result (MergePastStops PlacedMerges rest c.index-new-0.result) (ConflictsUnder Skip rest new) c.in-Err.stop
    (λ r s. (drop 1 new, c.requires.none_merged.0, first_of new c.index-new-0.result c.requires.some c.index-new-0.is, s, c.requires.none_merged.1))
    (rw (← c.index-new-0.is) at c.in-Err.ensures))

pub bounds-new-0 : goal.bounds-new-0
bounds-new-0 g c = some_long c.args.new.now c.requires.some
