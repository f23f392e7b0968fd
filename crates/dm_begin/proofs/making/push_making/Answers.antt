use Rattle.std.proofs.Common.{ap}
use Rattle.dm_prim.specs.Primitives.{At, AddFile}
use Rattle.dm_begin.proofs.MadeLemmas.{file_made}
use Rattle.dm_begin.proofs.making.push_making.Goals as goal

pub returns-in_ok-push-in-File : goal.returns-in_ok-push-in-File
returns-in_ok-push-in-File g c =
    rw c.in-File.is
    (file_made c.push_filling.result c.args.prims.now.items c.push-in-File.new.self.items c.push_filling.new.prims.items c.args.path c.in-File.file _ c.in_ok-push-in-File.ensures.items
    (ap (λ p. At p AddFile) c.in_ok-copy_into-in-File.ensures) c.push_filling.ensures)
