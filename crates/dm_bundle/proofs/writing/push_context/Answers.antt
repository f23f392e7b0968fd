use Rattle.std.proofs.Common.{arith}
use Rattle.std.proofs.lemmas.List.{take_all}
use Rattle.std.proofs.lemmas.Grind.{common_steps}
use Rattle.dm_info.specs.PatchInfo.{IsInfo}
use Rattle.dm_named.proofs.NamedLemmas.{all_more}
use Rattle.dm_bundle.proofs.writing.push_context.Goals as goal

pub loop-info-preserved : goal.loop-info-preserved
loop-info-preserved g c = record { text = grind (arith, common_steps); valid = all_more IsInfo c.args.context.now c.loop-info.info-index c.info-item.result c.loop-info-test.true c.info-item.is c.in_ok-push_info.ensures.valid c.loop-info.invariant.valid }

pub returns-clause-valid : goal.returns-clause-valid
returns-clause-valid g c = rw (take_all c.loop-info.info-index c.args.context.now c.loop-info-test.false) at c.loop-info.invariant.valid
