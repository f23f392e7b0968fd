use Rattle.std.proofs.Common.{◌∙◌, sym}
use Rattle.dm_repo.proofs.Splits.{all_taken}
use Rattle.dm_send.proofs.minimizing.named_all.Goals as goal

pub returns : goal.returns
returns g c = c.loop-patch.invariant.moved ∙ sym (all_taken c.args.list.items c.loop-patch.yielded c.loop-patch.patch-iterator.rest.items c.loop-patch.invariant.whole (sym (c.loop-patch.patch-iterator.rest.ok.0) ∙ c.in-None.ensures.steps.0))
