use Rattle.std.proofs.lemmas.List.{take_all}
use Rattle.dm_agree.proofs.Bringing.{are_more}
use Rattle.dm_agree.proofs.names.all_brought.Goals as goal

pub loop-text-preserved : goal.loop-text-preserved
loop-text-preserved g c = are_more c.args.limits (λ t. t.now) c.args.texts.now c.loop-text.text-index _ c.loop-text.bundles.items c.add_brought.new.bundles.items c.loop-text-test.true c.loop-text.invariant c.in_ok-add_brought.ensures

pub returns : goal.returns
returns g c = rw (take_all c.loop-text.text-index c.args.texts.now c.loop-text-test.false) at c.loop-text.invariant
