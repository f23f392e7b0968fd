use Rattle.std.proofs.Common.{sym, ◌∙◌}
use Rattle.dm_send.proofs.Sent.{takes_all, takes_nothing}
use Rattle.dm_send.proofs.sending.repo_of.Goals as goal
use Rattle.dm_send.proofs.sending.repo_of.Goals.{in-NothingNew, in-Merged+in_ok-append-in-Merged}

pub append-requires : goal.append-requires
append-requires g c = record { weighed = rw c.in-Merged.is at c.in_ok-weigh_owned.ensures.leaves_repo }

pub returns : goal.returns
returns g c =
    let list = c.args.list.items in
    let weighed = rw (c.new-repo.ensures, c.without_doubles-bundle.ensures, c.new.ensures.items) at c.in_ok-weigh_owned.ensures.weighed in
    elim c.match-branch-2.branch [
      | in-NothingNew w ↦ rw w.repo-is (c.new-repo.ensures ∙ sym (takes_nothing list w.in-NothingNew.is weighed))
      | in-Merged+in_ok-append-in-Merged w ↦ rw (w.repo-is, w.in_ok-append-in-Merged.ensures.patches, c.new-repo.ensures) (takes_all list w.in-Merged.is weighed)
    ]
