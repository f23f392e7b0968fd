use Rattle.std.proofs.Common.{inl, inr}
use Rattle.dm_c.specs.Sending.{untold, unread}
use Rattle.dm_c.proofs.send.names_of.Goals as goal

pub returns-in-Err-clause-err : goal.returns-in-Err-clause-err
returns-in-Err-clause-err c = elim c.unread.ensures [ inl x ↦ untold c.in-Err.fault x.0 (c.in-Err.ensures.fault x.0) x.1 | inr x ↦ unread x.1 ]
