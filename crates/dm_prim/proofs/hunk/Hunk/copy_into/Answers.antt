use Rattle.dm_prim.proofs.hunk.Hunk.copy_into.Goals as goal

pub invariant_of-result : goal.invariant_of-result
invariant_of-result g c = rw (c.in_ok-path.ensures, c.in_ok-old.ensures, c.in_ok-new.ensures) c.self.invariant
