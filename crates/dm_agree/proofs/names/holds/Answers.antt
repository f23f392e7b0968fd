use Rattle.dm_bundle.specs.Patches.{infos_of}
use Rattle.dm_repo.proofs.Members.{from_at}
use Rattle.dm_agree.proofs.names.holds.Goals as goal

pub returns-in-Some : goal.returns-in-Some
returns-in-Some g c = from_at (infos_of c.args.repo.now.patches) _ c.in-Some.ensures
