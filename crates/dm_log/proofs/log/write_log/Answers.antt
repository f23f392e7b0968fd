use Rattle.std.proofs.Common.{◌∙◌}
use Rattle.std.proofs.lemmas.Result.{IfOk-weaker}
use Rattle.dm_log.proofs.LogLemmas.{log_all}
use Rattle.dm_log.proofs.log.write_log.Goals as goal

pub returns : goal.returns
returns g c = IfOk-weaker c.write_entries.result _ _ (λ text e. e ∙ log_all c.args.repo.now.patches) c.write_entries.ensures
