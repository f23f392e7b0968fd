use Rattle.std.proofs.Common.{arith}
use Rattle.std.proofs.lemmas.List.{take_all}
use Rattle.std.proofs.lemmas.Grind.{common_steps}
use Rattle.dm_named.specs.Kinds.{HaveBytes}
use Rattle.dm_named.specs.Patches.{IsValidPatch}
use Rattle.dm_named.proofs.NamedLemmas.{all_more}
use Rattle.dm_bundle.proofs.writing.push_patches.Goals as goal

pub loop-patch-preserved : goal.loop-patch-preserved
loop-patch-preserved g c = record { text = grind (arith, common_steps); valid = all_more IsValidPatch c.args.patches.now c.loop-patch.patch-index c.patch-item.result c.loop-patch-test.true c.patch-item.is c.in_ok-push_named.ensures.valid c.loop-patch.invariant.valid; bytes = all_more (λ p. HaveBytes p.prims) c.args.patches.now c.loop-patch.patch-index c.patch-item.result c.loop-patch-test.true c.patch-item.is c.in_ok-push_named.ensures.bytes c.loop-patch.invariant.bytes }

pub returns-clause-valid : goal.returns-clause-valid
returns-clause-valid g c = rw (take_all c.loop-patch.patch-index c.args.patches.now c.loop-patch-test.false) at c.loop-patch.invariant.valid

pub returns-clause-bytes : goal.returns-clause-bytes
returns-clause-bytes g c = rw (take_all c.loop-patch.patch-index c.args.patches.now c.loop-patch-test.false) at c.loop-patch.invariant.bytes
