use Rattle.dm_mail.proofs.RuleLemmas.{receives}
use Rattle.dm_mail.proofs.ends.Inlet.take.Goals as goal

pub recv_as-requires-clause-rule : goal.recv_as-requires-clause-rule
recv_as-requires-clause-rule g c = (receives _ _ c.args.self.now.told c.args.self.now.is_mirror, λ _ _ _ _. tt)
