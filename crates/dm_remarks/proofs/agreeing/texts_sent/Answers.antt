use Rattle.dm_remarks.proofs.AgreeLemmas.{texts_step}
use Rattle.dm_remarks.proofs.agreeing.texts_sent.Goals as goal

pub loop-poster-preserved : goal.loop-poster-preserved
loop-poster-preserved c = texts_step c.args.posters.now c.loop-poster.poster-index _ c.loop-poster.all.items _ c.loop-poster-test.true c.loop-poster.invariant c.in_ok-extend_from_slice.ensures.items
