use Rattle.std.proofs.Common.{sym, ◌∙◌, arith}
use Rattle.dm_begin.proofs.BaseLemmas.{rests_on, rests_on_more}
use Rattle.dm_begin.proofs.base.rests_on_last.Goals as goal

pub returns-then-deps-ne1 : goal.returns-then-deps-ne1
returns-then-deps-ne1 g c = (
  λ t. absurd (cc),
  λ e. absurd (rests_on_more c.args.patch.now.deps c.deps-deps.result.now c.args.before.now c.in-Some.last.now c.deps-deps.ensures (sym c.in-Some.ensures.value) (λ l. omega (arith, l, c.if-deps-ne1.true)) e),
)

pub returns : goal.returns
returns g c =
    rests_on c.args.patch.now.deps c.deps-deps.result.now c.args.before.now c.in-Some.last.now c.index-deps-0.result c.same.result c.deps-deps.ensures (sym c.in-Some.ensures.value) c.if-deps-ne1.false c.index-deps-0.is
    (λ t. c.same.ensures.0 t ∙ c.info.ensures, λ q. c.same.ensures.1 (q ∙ sym c.info.ensures))
