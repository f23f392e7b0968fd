use Rattle.std.proofs.Common.{◌+◌, take}
use Rattle.serde_json.specs.Data.{string}
use Rattle.dm_bundle.specs.Patches.{infos_of}
use Rattle.dm_explain.proofs.FateLemmas.{infos_more}
use Rattle.dm_log.specs.Finding.{hash_text}
use Rattle.dm_log.proofs.JsonLemmas.{values_more}
use Rattle.dm_told.proofs.PatchLemmas.{hashes_end}
use Rattle.dm_told.proofs.named.hashes_of.Goals as goal

pub loop-patch-preserved : goal.loop-patch-preserved
loop-patch-preserved c =
    let patches = c.args.patches.now in
    let k = c.loop-patch.patch-index in
    values_more (λ i. string (hash_text i)) (infos_of (take k patches)) (infos_of (take (k + 1) patches)) c.info.result.now c.loop-patch.list.items c.push.new.self.items c.in_ok-hash_value.field-0
    (infos_more patches k c.patch-item.result c.info.result.now c.loop-patch-test.true c.patch-item.is c.info.ensures) c.loop-patch.invariant c.in_ok-push.ensures.items c.in_ok-hash_value.ensures

pub returns : goal.returns
returns c = hashes_end infos_of c.args.patches.now c.loop-patch.patch-index c.loop-patch.list c.loop-patch-test.false c.loop-patch.invariant
