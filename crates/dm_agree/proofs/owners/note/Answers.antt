use Rattle.std.proofs.Common.{List, subst}
use Rattle.std.proofs.lemmas.List.{take_all}
use Rattle.dm_named.specs.Patches.{Patch}
use Rattle.dm_agree.specs.Owners.{Notes}
use Rattle.dm_agree.proofs.Owning.{notes_none, notes_more}
use Rattle.dm_agree.proofs.owners.note.Goals as goal

pub loop-patch-init : goal.loop-patch-init
loop-patch-init g c = notes_none c.args.owners.now c.args.place

pub loop-patch-preserved : goal.loop-patch-preserved
loop-patch-preserved g c =
    notes_more c.args.owners.now c.loop-patch.owners c.insert.new.self c.args.patches.now c.loop-patch.patch-index c.patch-item.result c.args.place c.loop-patch-test.true c.patch-item.is
    (rw (c.in_ok-name.ensures, c.info.ensures) at c.in_ok-insert.ensures.updates.0) c.loop-patch.invariant

pub returns : goal.returns
returns g c = subst (λ (ps : List Patch). Notes c.args.owners.now ps c.args.place c.loop-patch.owners) (take_all c.loop-patch.patch-index c.args.patches.now c.loop-patch-test.false) c.loop-patch.invariant
