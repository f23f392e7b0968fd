use Rattle.std.proofs.Common.{sym, subst, ◌∙◌}
use Rattle.dm_tree.specs.Paths.{Path}
use Rattle.dm_explain.specs.Accounts.{IsReplaceTooLarge}
use Rattle.dm_explain.proofs.AccountLemmas.{same_replace}
use Rattle.dm_explain.proofs.depth.turned_path.Goals as goal

pub returns : goal.returns
returns c =
    let found = c.in-Some-Replace in
    let same = same_replace c.prims.result.now c.args.misfit.now.prim found.field-0.now found.replace c.prims.ensures found.ensures.lookup.3.0 found.ensures.lookup.1 found.field-0-is c.requires.1.3 in
    subst (λ (z : Path). IsReplaceTooLarge c.args.misfit.now z) (same ∙ sym c.path.ensures ∙ sym c.in_ok-path.ensures) c.requires.1
