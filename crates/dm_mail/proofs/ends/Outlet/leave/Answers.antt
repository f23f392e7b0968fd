use Rattle.std.proofs.Common.{◌∙◌}
use Rattle.dm_mail.proofs.MailLemmas.{all_bundles}
use Rattle.dm_mail.proofs.ends.Outlet.leave.Goals as goal

pub invariant_of-result-clause-counted : goal.invariant_of-result-clause-counted
invariant_of-result-clause-counted c = all_bundles _ c.args.self.unclosed ∙ c.args.self.counted
