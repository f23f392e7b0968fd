use Rattle.dm_bundle.specs.Patches.{infos_of}
use Rattle.dm_repo.proofs.NameLemmas.{is_before}
use Rattle.dm_commands.proofs.tag.is_of_first.Goals as goal

pub returns-in-Some : goal.returns-in-Some
returns-in-Some c = is_before (infos_of c.args.repo.now.patches) c.args.name.now c.in-Some.place c.args.count c.is_lawful.ensures.distinct (rw c.in-Some.is at c.position.ensures)
