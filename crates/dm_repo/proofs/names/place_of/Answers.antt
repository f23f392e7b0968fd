use Rattle.dm_repo.proofs.NameLemmas.{looked_up}
use Rattle.dm_repo.proofs.names.place_of.Goals as goal

pub returns : goal.returns
returns g c = looked_up c.args.names.now.keys c.args.info.now c.get_index_of.result c.get_index_of.ensures.index c.get_index_of.ensures.found
