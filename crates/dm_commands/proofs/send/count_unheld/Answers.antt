use Rattle.std.proofs.Common.{[], arith, refl}
use Rattle.dm_bundle.specs.Patches.{infos_of}
use Rattle.dm_repo.proofs.Members.{from_at}
use Rattle.dm_send.specs.Sending.{no_names}
use Rattle.dm_send.proofs.Parting.{names_more}
use Rattle.dm_commands.proofs.SendLemmas.{held_more, unheld_more}
use Rattle.dm_commands.proofs.send.count_unheld.Goals as goal
use Rattle.dm_commands.proofs.send.count_unheld.Goals.{in-Some, in-None}

pub loop-name-init : goal.loop-name-init
loop-name-init c = (omega arith, ([], [], no_names, refl))

pub loop-name-preserved : goal.loop-name-preserved
loop-name-preserved c =
    let repo = c.args.repo.now.patches in
    let name = c.name-item.result in
    let so_far = c.loop-name.invariant in
    let more = names_more c.args.names.now c.loop-name.name-index name c.loop-name-test.true c.name-item.is in
    elim c.match-position.branch [
      | in-Some w ↦ rw (more, w.unheld-is) (omega (arith, so_far.0), held_more repo _ name c.loop-name.unheld (from_at (infos_of repo) w.in-Some.field-0 (rw w.in-Some.is at c.position.ensures)) so_far.1)
      | in-None w ↦ rw (more, w.unheld-is) (omega (arith, so_far.0), unheld_more repo _ name c.loop-name.unheld (rw w.in-None.is at c.position.ensures) so_far.1)
    ]
