use Rattle.std.proofs.Common.{rules}
use Rattle.std.proofs.lemmas.Fn.{always_returns_same}
use Rattle.dm_tree.specs.Trees.{name_cmp}
use Rattle.dm_tree.proofs.Search.{searched}
use Rattle.dm_tree.proofs.node.place.Goals as goal

pub returns-clause-found : goal.returns-clause-found
returns-clause-found g c =
    let facts = c.binary_search_by.ensures in
    let by = facts.position (λ k. name_cmp k.name c.args.name.now) (always_returns_same _ _ _ (λ a r h called. (search rules, search rules))) in
    (searched c.args.name.now c.args.children.now c.requires _ facts.bound by).0

pub returns-clause-absent : goal.returns-clause-absent
returns-clause-absent g c =
    let facts = c.binary_search_by.ensures in
    let by = facts.position (λ k. name_cmp k.name c.args.name.now) (always_returns_same _ _ _ (λ a r h called. (search rules, search rules))) in
    (searched c.args.name.now c.args.children.now c.requires _ facts.bound by).1
