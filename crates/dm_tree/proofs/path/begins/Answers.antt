use Rattle.std.proofs.Common.{arith, refl, sym, ◌∙◌, ◌-◌}
use Rattle.dm_tree.proofs.Fronts.{shorter_never, begins_none, begins_never, begins_more, begins_all}
use Rattle.dm_tree.proofs.path.begins.Goals as goal

pub returns-then-texts-front : goal.returns-then-texts-front
returns-then-texts-front g c = (λ f. cc, λ u. absurd (shorter_never c.args.texts.now c.args.front.now c.if-texts-front.true u))

pub loop-i-init : goal.loop-i-init
loop-i-init g c = begins_none c.args.texts.now c.args.front.now c.if-texts-front.false

pub returns-then-not-is_same : goal.returns-then-not-is_same
returns-then-not-is_same g c = (
  λ f. cc,
  λ u. absurd (begins_never c.args.texts.now c.args.front.now (c.loop-i.i - 1) c.index-texts-i.result c.index-front-i.result (omega arith) c.index-texts-i.is c.index-front-i.is
      (λ e. cc (c.if-not-is_same.ensures.same.1 (c.as_slice.ensures ∙ e ∙ sym c.as_slice-in-loop-i.ensures))) u),
)

pub loop-i-preserved : goal.loop-i-preserved
loop-i-preserved g c = begins_more c.args.texts.now c.args.front.now c.loop-i.i c.index-texts-i.result c.index-front-i.result (omega arith) c.loop-i.auto.i c.if-texts-front.false c.index-texts-i.is c.index-front-i.is
    (sym c.as_slice.ensures ∙ c.if-not-is_same.ensures.same.0 refl ∙ c.as_slice-in-loop-i.ensures) c.loop-i.invariant

pub returns : goal.returns
returns g c = (λ t. begins_all _ _ c.loop-i.i (omega arith) c.loop-i.invariant, λ u. refl)
