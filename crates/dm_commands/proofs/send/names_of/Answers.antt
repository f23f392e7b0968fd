use Rattle.dm_commands.proofs.SendLemmas.{refuses_names}
use Rattle.dm_commands.proofs.send.names_of.Goals as goal

pub returns-in-Err-clause-err : goal.returns-in-Err-clause-err
returns-in-Err-clause-err c = refuses_names c.args.limits c.args.theirs.now c.in-Err.fault c.of_names.result c.in-Err.ensures.fault c.of_names.ensures
