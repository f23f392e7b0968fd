use Rattle.dm_prim.specs.Prims.{prim_of}
use Rattle.dm_prim.proofs.TableLemmas.{no_before}
use Rattle.dm_prim.proofs.pair.commute_at_one_path.Goals as goal

pub returns-in_default : goal.returns-in_default
returns-in_default g c =
    no_before (prim_of c.args.p) (prim_of c.args.q) c.requires.first c.requires.second c.requires.one_path c.in-Err.ensures.1 (rw c.in-Err.ensures.0 at c.in_default.ensures)
