use Rattle.dm_remarks.proofs.AgreeLemmas.{start_of_base}
use Rattle.dm_remarks.proofs.agreeing.start_of.Goals as goal

pub returns : goal.returns
returns c = start_of_base c.args.base.limits c.args.base.text.now c.repo_of_base.result c.repo_of_base.ensures.ok
