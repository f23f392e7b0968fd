use Rattle.std.proofs.Common.{◌+◌}
use Rattle.std.proofs.lemmas.List.{take_rest}
use Rattle.memchr.specs.Find.{is_byte2}
use Rattle.dm_info.proofs.Cuts.{cut_found, cut_missed}
use Rattle.dm_info.proofs.reading.cut_of.Goals as goal

pub returns-in-Some : goal.returns-in-Some
returns-in-Some c = rw (take_rest c.args.text.now (c.in-Some.i + 1)) (cut_found (is_byte2 c.args.a c.args.b) c.args.text.now c.in-Some.i c.in-Some.ensures)

pub returns-in-None : goal.returns-in-None
returns-in-None c = cut_missed (is_byte2 c.args.a c.args.b) c.args.text.now c.in-None.ensures
