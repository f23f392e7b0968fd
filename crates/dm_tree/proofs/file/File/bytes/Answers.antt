use Rattle.std.proofs.Common.{◌∙◌, ap, length}
use Rattle.dm_tree.proofs.Joined.{file_bytes, some_count}
use Rattle.dm_tree.proofs.file.File.bytes.Goals as goal

pub overflow_sub-result : goal.overflow_sub-result
overflow_sub-result g c = some_count c.args.self.now c.self.inside.count (c.self.invariant.0 ∙ ap length c.self.view_is) c.requires

pub returns : goal.returns
returns g c = file_bytes c.self.inside.parts.items c.deref.result.now c.args.self.now c.size.result c.self.inside.count c.deref.ensures.value c.size.ensures.value c.self.invariant.0 c.self.view_is
