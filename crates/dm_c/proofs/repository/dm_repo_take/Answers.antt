use Rattle.dm_c.specs.Calls.{taken}
use Rattle.dm_c.proofs.repository.dm_repo_take.Goals as goal

pub returns : goal.returns
returns c =
    taken _ c.in-Some.ensures _ c.in-Some-policy_of.ensures _ _ c.in-Some-take_out.ensures.old c.put.ensures _
    (rw (← c.deref_mut.ensures.value) c.take_told-status.ensures) c.number-2.ensures
