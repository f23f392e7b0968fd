use Rattle.dm_tree.proofs.Borrowed.{held_from, length-held_from}
use Rattle.dm_tree.proofs.text_ref.TextRef.len.Goals as goal

pub returns : goal.returns
returns c = length-held_from _ _ _ _ (held_from _ _ _ _ c.self.invariant c.self.view_is)
