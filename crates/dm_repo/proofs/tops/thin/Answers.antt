use Rattle.std.proofs.Common.{rules}
use Rattle.std.proofs.lemmas.Fn.{dedup_same}
use Rattle.std.proofs.lemmas.List.Sorted.{answers_always}
use Rattle.std.specs.Ordering.{is_lt}
use Rattle.dm_tree.specs.Trees.{path_cmp}
use Rattle.dm_repo.proofs.TopLemmas.{by_names, is_under, told_under, tops_left, tops_turned}
use Rattle.dm_repo.proofs.NearTops.{sorted_tops}
use Rattle.dm_repo.proofs.tops.thin.Goals as goal

pub returns-clause-tops : goal.returns-clause-tops
returns-clause-tops g c =
    let moved = c.sort_unstable_by.ensures.permutation in
    let sorted = c.sort_unstable_by.ensures.sorted (λ p q. is_lt (path_cmp p q)) by_names (answers_always _ _ _ (λ f a r h called. search rules)) in
    let left = dedup_same _ is_under _ (λ x y b f' x' y' k. search (rules, told_under)) _ _ c.dedup_by.ensures.filtered in
    tops_turned _ _ _ (tops_left _ _ _ moved sorted left) c.reverse.ensures.items

pub returns-clause-sorted : goal.returns-clause-sorted
returns-clause-sorted g c =
    let moved = c.sort_unstable_by.ensures.permutation in
    let sorted = c.sort_unstable_by.ensures.sorted (λ p q. is_lt (path_cmp p q)) by_names (answers_always _ _ _ (λ f a r h called. search rules)) in
    let left = dedup_same _ is_under _ (λ x y b f' x' y' k. search (rules, told_under)) _ _ c.dedup_by.ensures.filtered in
    sorted_tops _ _ _ _ (tops_turned _ _ _ (tops_left _ _ _ moved sorted left) c.reverse.ensures.items) sorted left c.reverse.ensures.items
