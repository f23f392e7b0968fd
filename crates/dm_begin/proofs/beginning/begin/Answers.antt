use Rattle.std.proofs.Common.{◌≤◌, ◌*◌, length, arith}
use Rattle.std.proofs.lemmas.Result.{err_from_is_err_and}
use Rattle.dm_begin.specs.Beginnings.{most_prims}
use Rattle.dm_begin.proofs.DealLemmas.{begins}
use Rattle.dm_begin.proofs.beginning.begin.Goals as goal

pub returns-in_err-patches-clause-fault : goal.returns-in_err-patches-clause-fault
returns-in_err-patches-clause-fault g c =
    let p = err_from_is_err_and c.from_residual-in_err-patches.result c.from_residual-in_err-patches.ensures.1 in
    rw (p.1, p.2) (rw c.deref.ensures.value at c.in_ok-check_names.ensures.names)

pub returns-clause-beginning : goal.returns-clause-beginning
returns-clause-beginning g c =
    let fit : length c.in_ok-prims.prims.items ≤ length c.args.names.items * most_prims = omega arith in
    begins c.args.tree.now c.args.names.items c.in_ok-prims.prims.items c.in_ok-patches.patches.items c.a_tree_has_a_beginning.ensures.beginning c.tree_is_lawful.ensures.lawful c.tree_is_lawful.ensures.shallow
    (rw c.deref.ensures.value at c.in_ok-check_names.ensures.names) (rw c.deref.ensures.value at c.in_ok-check_names.ensures.distinct) c.in_ok-prims.ensures fit c.in_ok-patches.ensures
