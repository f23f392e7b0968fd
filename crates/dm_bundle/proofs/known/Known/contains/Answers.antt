use Rattle.dm_bundle.proofs.KnownLemmas.{known}
use Rattle.dm_bundle.proofs.known.Known.contains.Goals as goal

pub returns : goal.returns
returns g c = rw (← c.self.view_is) (known c.self.inside.infos c.args.info.now c.contains.result c.contains.ensures)
