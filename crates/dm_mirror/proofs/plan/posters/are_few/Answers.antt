use Rattle.std.proofs.Common.{rules, arith, []}
use Rattle.dm_mirror.proofs.PlanLemmas.{few_at}
use Rattle.dm_mirror.proofs.plan.posters.are_few.Goals as goal

pub returns-then-texts-gt-MOST_BUNDLES : goal.returns-then-texts-gt-MOST_BUNDLES
returns-then-texts-gt-MOST_BUNDLES c = (
  search rules,
  λ few. absurd (omega (arith, c.if-texts-gt-MOST_BUNDLES.true, few_at (λ text. text.now) (λ texts. texts.now) c.args.posters.now c.loop-texts.texts-index (record { ref_ptr = (0, 0); now = [] }) c.loop-texts-test.true few)),
)
