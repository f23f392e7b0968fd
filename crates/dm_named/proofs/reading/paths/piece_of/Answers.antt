use Rattle.std.proofs.lemmas.List.{take_rest}
use Rattle.dm_named.proofs.PathLemmas.{piece_found, piece_last}
use Rattle.dm_named.proofs.reading.paths.piece_of.Goals as goal

pub returns-in-Some : goal.returns-in-Some
returns-in-Some c = rw (take_rest c.args.text.now c.in-Some.i) (piece_found c.args.text.now c.in-Some.i c.in-Some.ensures)

pub returns-in-None : goal.returns-in-None
returns-in-None c = piece_last c.args.text.now c.in-None.ensures
