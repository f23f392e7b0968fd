use Rattle.std.proofs.Common.{arith, ap, length, [], ◌∙◌}
use Rattle.std.proofs.lemmas.List.{get_or_default}
use Rattle.dm_tree.proofs.Joined.{joined-set, on_ok}
use Rattle.dm_tree.proofs.parts.splice_part.Goals as goal

pub returns-clause-ok : goal.returns-clause-ok
returns-clause-ok g c =
    let ps = c.args.parts.now.items in
    let p = c.index_mut.result.now in
    let same = ap length (c.index_mut.ensures.value ∙ get_or_default ps c.args.part p [] c.requires.part) in
    on_ok c.splice.result _ _
    (λ e. joined-set ps c.args.part c.args.start c.args.end p c.splice.new.self c.args.fresh.now c.requires.part c.index_mut.ensures.value (omega (arith, same, c.requires.order, c.requires.within)) (omega (arith, same, c.requires.within)) e)
    c.splice.ensures.ok
