use Rattle.dm_commands.proofs.RunLemmas.{posters_step}
use Rattle.dm_commands.proofs.running.push_posters.Goals as goal

pub loop-number-preserved : goal.loop-number-preserved
loop-number-preserved c =
    posters_step (λ p. p.0.now) c.args.out.now.items c.loop-number.out.items _ c.args.posters.now c.loop-number.number _ c.loop-number-test.true c.loop-number.invariant c.in_ok-push_poster.ensures
