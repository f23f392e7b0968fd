use Rattle.dm_c.specs.Sending.{within}
use Rattle.dm_c.proofs.SendLemmas.{given_sent}
use Rattle.dm_c.proofs.send.dm_repo_send.Goals as goal

pub returns-clause-sent : goal.returns-clause-sent
returns-clause-sent c =
    within c.in-Some.limits c.in-Some.ensures c.in-Some-take_out.inside.value c.in-Some-take_out.ensures.old
    (given_sent _ _ _ _ c.sent_text-made.result _ _ _ _ _ _ c.give_sent.result _
    (rw (← c.deref.ensures) c.sent_text-made.ensures.ok) (rw (← c.deref.ensures) c.sent_text-made.ensures.err) c.give_sent.ensures c.number-2.ensures)
