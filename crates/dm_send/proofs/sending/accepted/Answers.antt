use Rattle.std.proofs.Common.{refl}
use Rattle.dm_send.proofs.Sent.{accepts, refuses_there}
use Rattle.dm_send.proofs.sending.accepted.Goals as goal

pub returns-in-Ok-clause-accepted : goal.returns-in-Ok-clause-accepted
returns-in-Ok-clause-accepted g c = (refl, accepts c.args.shared.now.patches c.args.bundle c.in-Ok.field-0 c.in-Ok.ensures.weighed)

pub returns-in-Err-clause-refusal : goal.returns-in-Err-clause-refusal
returns-in-Err-clause-refusal g c = refuses_there c.in-Err.why c.refused_there.result c.refused_there.ensures.memory c.refused_there.ensures.full c.args.shared.now.patches c.args.bundle c.in-Err.ensures.refusal
