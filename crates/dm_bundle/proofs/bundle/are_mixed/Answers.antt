use Rattle.std.proofs.Common.{sym, subst, List}
use Rattle.std.proofs.lemmas.List.{take_all}
use Rattle.dm_info.specs.PatchInfo.{PatchInfo}
use Rattle.dm_bundle.specs.Patches.{infos_of}
use Rattle.dm_bundle.specs.Context.{AreDisjoint}
use Rattle.dm_bundle.proofs.Members.{apart_further}
use Rattle.dm_bundle.proofs.bundle.are_mixed.Goals as goal

pub returns-then-is_among : goal.returns-then-is_among
returns-then-is_among g c = λ apart. apart c.info-item.result c.if-is_among.ensures (c.loop-info.info-index, c.loop-info-test.true, sym c.info-item.is)

pub loop-info-preserved : goal.loop-info-preserved
loop-info-preserved g c = apart_further (infos_of c.args.patches.now) c.args.context.now c.loop-info.info-index c.info-item.result c.loop-info-test.true c.info-item.is c.loop-info.invariant c.if-is_among.ensures

pub returns : goal.returns
returns g c = subst (λ (is : List PatchInfo). AreDisjoint (infos_of c.args.patches.now) is) (take_all c.loop-info.info-index c.args.context.now c.loop-info-test.false) c.loop-info.invariant
