use Rattle.std.proofs.Common.{◌∙◌, refl, sym, ap, length, arith}
use Rattle.dm_tree.proofs.Blank.{begin_with_nothing, blank_short}
use Rattle.dm_tree.proofs.Steps.{no_rest, some_rest}
use Rattle.dm_tree.proofs.file.blank_begins.Goals as goal

pub returns-then-is_empty : goal.returns-then-is_empty
returns-then-is_empty g c = (λ t. begin_with_nothing _ _ (ap length (no_rest c.args.text.now (sym c.is_empty.ensures ∙ c.if-is_empty.true))), λ u. refl)

pub returns-then-start-gt0 : goal.returns-then-start-gt0
returns-then-start-gt0 g c =
    let some = some_rest c.args.text.now (sym c.is_empty.ensures ∙ c.if-is_empty.false) in
    (λ t. cc, λ u. absurd (omega (arith, some, blank_short c.args.start c.args.text.now u, c.if-start-gt0.true)))

pub returns-then-len-gt1 : goal.returns-then-len-gt1
returns-then-len-gt1 g c =
    (λ t. cc, λ u. absurd (omega (arith, blank_short c.args.start c.args.text.now u, c.if-len-gt1.true, c.len.ensures)))
