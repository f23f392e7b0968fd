use Rattle.std.proofs.Common.{refl}
use Rattle.dm_prim.specs.Primitives as primitives
use Rattle.dm_repo.proofs.near.work_path.Goals as goal

pub returns-in-AddFile : goal.returns-in-AddFile
returns-in-AddFile g c = (primitives.AddFile, rw c.in-AddFile.is refl)

pub returns-in-RmFile : goal.returns-in-RmFile
returns-in-RmFile g c = (primitives.RmFile, rw c.in-RmFile.is refl)

pub returns-in-AddDir : goal.returns-in-AddDir
returns-in-AddDir g c = (primitives.AddDir, rw c.in-AddDir.is refl)

pub returns-in-RmDir : goal.returns-in-RmDir
returns-in-RmDir g c = (primitives.RmDir, rw c.in-RmDir.is refl)

pub returns-in-Hunk : goal.returns-in-Hunk
returns-in-Hunk g c = let h = c.in-Hunk.hunk in (primitives.Hunk h.line h.old h.new, rw (c.in-Hunk.is, c.path.ensures.value) refl)

pub returns-in-Binary : goal.returns-in-Binary
returns-in-Binary g c = let b = c.in-Binary.binary in (primitives.Binary b.old b.new, rw (c.in-Binary.is, c.path-in-Binary.ensures.value) refl)

pub returns-in-Replace : goal.returns-in-Replace
returns-in-Replace g c = let w = c.in-Replace.replace.words in (primitives.Replace w.set w.old w.new, rw (c.in-Replace.is, c.path-in-Replace.ensures) refl)
