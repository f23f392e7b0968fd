use Rattle.std.proofs.Common.{◌∙◌, List, inl, inr, subst}
use Rattle.std.proofs.lemmas.Result.{IfOk-weaker, MatchResult-weaker}
use Rattle.std.specs.Global.{Global}
use Rattle.dm_tree.specs.declared.listing.Listed.{Listed}
use Rattle.dm_c.specs.Files.{IsNoFileAmong}
use Rattle.dm_c.proofs.file.file.Goals as goal

pub returns-clause-ok : goal.returns-clause-ok
returns-clause-ok c = IfOk-weaker c.file_among.result _ _ (λ bytes h. (c.tree-tree.result.now, c.tree-tree.ensures, h)) c.file_among.ensures.ok

pub returns-clause-err : goal.returns-clause-err
returns-clause-err c =
    let rows = λ (rs : List (Listed Global)). IsNoFileAmong c.tree-tree.result.now c.args.text.now rs in
    MatchResult-weaker c.file_among.result c.file_among.ensures.err (λ x h. h)
    (λ why h. elim h [ inl e ↦ inl e | inr x ↦ inr (x.0, (c.tree-tree.result.now, c.tree-tree.ensures, subst rows (c.deref.ensures.value ∙ c.in_ok-rows.ensures) x.1)) ])
