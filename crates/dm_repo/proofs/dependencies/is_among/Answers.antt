use Rattle.dm_repo.proofs.NameLemmas.{is_before}
use Rattle.dm_repo.proofs.dependencies.is_among.Goals as goal

pub returns-in-Some : goal.returns-in-Some
returns-in-Some g c = is_before c.args.names.now.keys c.args.info.now c.in-Some.k c.args.n c.requires c.in-Some.ensures
