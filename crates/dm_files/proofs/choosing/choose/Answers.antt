use Rattle.dm_bundle.specs.Patches.{infos_of}
use Rattle.dm_log.proofs.FindingLemmas.{info_there}
use Rattle.dm_files.specs.Choosing.{nothing}
use Rattle.dm_files.proofs.ChoosingLemmas.{choose_more, is_there}
use Rattle.dm_files.proofs.choosing.choose.Goals as goal

pub loop-word-init : goal.loop-word-init
loop-word-init c = rw c.in_ok-names.ensures.items nothing

pub patch-requires : goal.patch-requires
patch-requires c = is_there c.args.repo.now.patches c.as_bytes.result.now c.in-One.place (rw c.in-One.is at c.in_ok-found.ensures)

pub loop-word-preserved : goal.loop-word-preserved
loop-word-preserved c =
    let finds = rw (c.in-One.is, c.as_bytes.ensures.value) at c.in_ok-found.ensures in
    let at = info_there c.args.repo.now.patches c.in-One.place c.patch.result.now c.patch.ensures in
    rw (c.in_ok-push.ensures.items, c.in_ok-name.ensures, c.info.ensures)
    (choose_more (infos_of c.args.repo.now.patches) c.args.words.now c.loop-word.word-index _ c.loop-word.names.items c.patch.result.now.info c.in-One.place c.loop-word-test.true c.loop-word.invariant finds at)
