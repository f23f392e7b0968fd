use Rattle.std.proofs.Common.{◌≡◌, ◌∙◌, sym, ap}
use Rattle.std.specs.Ordering.{is_eq}
use Rattle.dm_tree.specs.Validity.{is_name}
use Rattle.dm_tree.proofs.Children.{name_equal, name_self}
use Rattle.dm_tree.proofs.bytes.is_same.Goals as goal

pub returns-clause-same : goal.returns-clause-same
returns-clause-same g =
    let a = g.args.a.now in
    let b = g.args.b.now in
    let value : g.is_eq.result ≡ is_name a b = g.is_eq.ensures ∙ ap is_eq g.cmp.ensures in
    (λ t. name_equal a b (sym value ∙ t), λ e. value ∙ ap (is_name a) (sym e) ∙ ap is_eq (name_self a))
