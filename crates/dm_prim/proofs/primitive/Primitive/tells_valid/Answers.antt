use Rattle.dm_prim.proofs.primitive.Primitive.tells_valid.Goals as goal

pub returns-in-AddFile : goal.returns-in-AddFile
returns-in-AddFile g c = rw c.in-AddFile.is (c.len.ensures.valid, tt)

pub returns-in-RmFile : goal.returns-in-RmFile
returns-in-RmFile g c = rw c.in-RmFile.is (c.len-in-RmFile.ensures.valid, tt)

pub returns-in-AddDir : goal.returns-in-AddDir
returns-in-AddDir g c = rw c.in-AddDir.is (c.len-in-AddDir.ensures.valid, tt)

pub returns-in-RmDir : goal.returns-in-RmDir
returns-in-RmDir g c = rw c.in-RmDir.is (c.len-in-RmDir.ensures.valid, tt)

pub returns-in-Move : goal.returns-in-Move
returns-in-Move g c = rw c.in-Move.is (c.len-in-Move.ensures.valid, c.len-in-Move-2.ensures.valid)

pub returns-in-Hunk : goal.returns-in-Hunk
returns-in-Hunk g c = rw c.in-Hunk.is c.line.ensures.valid

pub returns-in-Binary : goal.returns-in-Binary
returns-in-Binary g c = rw c.in-Binary.is c.path.ensures.valid

pub returns-in-ChangePref : goal.returns-in-ChangePref
returns-in-ChangePref g c = rw c.in-ChangePref.is c.name.ensures.valid
