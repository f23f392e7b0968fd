use Rattle.std.proofs.Common.{rules}
use Rattle.std.proofs.lemmas.List.Sorted.{IsPartitionPoint-from_clause}
use Rattle.std.specs.Ordering.{is_lt}
use Rattle.dm_tree.specs.Trees.{path_cmp}
use Rattle.dm_repo.proofs.NearTops.{parted}
use Rattle.dm_repo.proofs.tops.place_among.Goals as goal

pub returns-clause-parts : goal.returns-clause-parts
returns-clause-parts g c = IsPartitionPoint-from_clause (λ top. is_lt (path_cmp c.args.path.now top)) _ _ c.partition_point.ensures.partitioned (parted c.args.tops.now c.args.path.now c.requires) (λ a r q k. search rules)
