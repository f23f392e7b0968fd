use Rattle.dm_prim.specs.Replaces.{replace_of}
use Rattle.dm_prim.specs.Prims.{prim_of}
use Rattle.dm_prim.proofs.TableLemmas.{no_after}
use Rattle.dm_prim.proofs.pair.commute_replace.Goals as goal

pub returns-in_default : goal.returns-in_default
returns-in_default g c =
    no_after (replace_of c.args.replace) (prim_of c.args.q) tt c.requires.second c.requires.one_path c.in-Err.ensures.1 (rw c.in-Err.ensures.0 at c.in_default.ensures)
