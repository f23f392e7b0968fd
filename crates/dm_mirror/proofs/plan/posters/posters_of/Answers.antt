use Rattle.dm_mirror.proofs.PlanLemmas.{few_at}
use Rattle.dm_mirror.proofs.plan.posters.posters_of.Goals as goal

pub new-requires-clause-few : goal.new-requires-clause-few
new-requires-clause-few c = few_at (λ text. text.now) (λ texts. texts.now) c.args.posters.now c.loop-texts.texts-index _ c.loop-texts-test.true c.requires.few
