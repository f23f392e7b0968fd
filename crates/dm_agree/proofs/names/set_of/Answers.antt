use Rattle.std.proofs.Common.{◌↔◌, List, subst}
use Rattle.std.specs.List.{Contains}
use Rattle.std.proofs.lemmas.List.{take_all}
use Rattle.dm_info.specs.PatchInfo.{PatchInfo}
use Rattle.dm_bundle.proofs.KnownLemmas.{noted}
use Rattle.dm_agree.proofs.Sets.{set_more}
use Rattle.dm_agree.proofs.names.set_of.Goals as goal

pub loop-info-preserved : goal.loop-info-preserved
loop-info-preserved g c =
    set_more c.args.infos.now c.loop-info.info-index c.info-item.result c.loop-info.set.keys c.insert.new.self.keys c.in_ok-copy_into.field-0 c.loop-info-test.true c.info-item.is c.in_ok-copy_into.ensures
    (noted c.loop-info.set c.insert.new.self c.in_ok-copy_into.field-0 c.in_ok-insert.ensures.updates.0) c.loop-info.invariant

pub returns : goal.returns
returns g c i = subst (λ (xs : List PatchInfo). Contains c.loop-info.set.keys i ↔ Contains xs i) (take_all c.loop-info.info-index c.args.infos.now c.loop-info-test.false) (c.loop-info.invariant i)
