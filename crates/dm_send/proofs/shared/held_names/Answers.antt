use Rattle.std.proofs.Common.{arith}
use Rattle.std.proofs.lemmas.List.{take_all}
use Rattle.dm_bundle.specs.Patches.{infos_of}
use Rattle.dm_repo.proofs.Members.{from_at}
use Rattle.dm_send.proofs.Parting.{names_more}
use Rattle.dm_send.proofs.Sharing.{held_less, held_more}
use Rattle.dm_send.proofs.shared.held_names.Goals as goal
use Rattle.dm_send.proofs.shared.held_names.Goals.{in-Some+in_ok-copy_into-in-Some+in_ok-push-in-Some, in-None}

pub loop-name-preserved : goal.loop-name-preserved
loop-name-preserved g c =
    let repo = c.args.repo.now.patches in
    let name = c.name-item.result in
    let more = names_more c.args.names.now c.loop-name.name-index name c.loop-name-test.true c.name-item.is in
    elim c.match-position.branch [
      | in-Some+in_ok-copy_into-in-Some+in_ok-push-in-Some w ↦ rw (more, w.held-is, w.in_ok-push-in-Some.ensures.items, w.in_ok-copy_into-in-Some.ensures)
          (held_more repo _ c.loop-name.held.items name c.loop-name.invariant (from_at (infos_of repo) w.in-Some.field-0 (rw w.in-Some.is at c.position.ensures)))
      | in-None w ↦ rw (more, w.held-is) (held_less repo _ c.loop-name.held.items name c.loop-name.invariant (rw w.in-None.is at c.position.ensures))
    ]

pub returns : goal.returns
returns g c = rw (take_all c.loop-name.name-index c.args.names.now (omega (arith, c.loop-name-test.false))) at c.loop-name.invariant
