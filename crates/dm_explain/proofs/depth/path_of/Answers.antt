use Rattle.std.proofs.Common.{inl, inr, sym}
use Rattle.std.proofs.lemmas.Bool.{false≢true}
use Rattle.dm_explain.proofs.depth.path_of.Goals as goal

pub turned_path-requires : goal.turned_path-requires
turned_path-requires c = elim c.requires [ inl deep ↦ absurd (false≢true (sym (rw deep.0 at c.if-eq.ensures))) | inr large ↦ large.1 ]

pub moved_too_deep-requires : goal.moved_too_deep-requires
moved_too_deep-requires c = elim c.requires [ inl deep ↦ deep.1 | inr large ↦ absurd (false≢true (rw large.0 at c.if-eq.ensures)) ]
