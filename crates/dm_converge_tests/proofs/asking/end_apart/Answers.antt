use Rattle.std.proofs.Common.{refl, map, [], ◌++◌}
use Rattle.std.proofs.lemmas.List.Elements.{Contains-append_left, Contains-append_right}
use Rattle.dm_repo.specs.declared.policy.Policy.TheVariants.{Refuse}
use Rattle.dm_converge.specs.Pools.{as_it_was}
use Rattle.dm_converge.proofs.Networks.{comes_each}
use Rattle.dm_converge_tests.proofs.ApartLemmas.{same_members, undecided}
use Rattle.dm_converge_tests.proofs.asking.end_apart.Goals as goal

pub returns : goal.returns
returns c = λ yes.
    let one = c.repo_of-one.result.patches in
    let other = c.repo_of-other.result.patches in
    let xs = map (λ text. text.now) c.args.texts.now in
    let ys = map (λ text. text.now) c.args.others.now in
    let same = c.if-not-have_same_names.ensures refl in (
      one,
      other,
      comes_each (xs ++ ys) [] [] xs Refuse _ one (λ t k. Contains-append_left xs ys t k) as_it_was c.repo_of-one.ensures,
      comes_each (xs ++ ys) [] [] ys Refuse _ other (λ t k. Contains-append_right xs ys t k) as_it_was c.repo_of-other.ensures,
      same_members one other same,
      undecided one other c.tree.result.now c.tree-2.result.now same c.tree.ensures c.tree-2.ensures (c.list_apart.ensures yes),
    )
