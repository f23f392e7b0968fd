use Rattle.std.proofs.Common.{refl}
use Rattle.dm_prim.proofs.primitive.Primitive.into_hunk.Goals as goal

pub returns-in-AddFile : goal.returns-in-AddFile
returns-in-AddFile g c = rw c.in-AddFile.is (refl, λ h. h)

pub returns-in-RmFile : goal.returns-in-RmFile
returns-in-RmFile g c = rw c.in-RmFile.is (refl, λ h. h)

pub returns-in-AddDir : goal.returns-in-AddDir
returns-in-AddDir g c = rw c.in-AddDir.is (refl, λ h. h)

pub returns-in-RmDir : goal.returns-in-RmDir
returns-in-RmDir g c = rw c.in-RmDir.is (refl, λ h. h)

pub returns-in-Move : goal.returns-in-Move
returns-in-Move g c = rw c.in-Move.is (refl, λ h. h)

pub returns-in-Hunk : goal.returns-in-Hunk
returns-in-Hunk g c = rw c.in-Hunk.is refl

pub returns-in-Binary : goal.returns-in-Binary
returns-in-Binary g c = rw c.in-Binary.is (refl, λ h. h)

pub returns-in-Replace : goal.returns-in-Replace
returns-in-Replace g c = rw c.in-Replace.is (refl, λ h. h)

pub returns-in-ChangePref : goal.returns-in-ChangePref
returns-in-ChangePref g c = rw c.in-ChangePref.is (refl, λ h. h)
