use Rattle.dm_prim.proofs.TouchLemmas.{stay_touched}
use Rattle.dm_prim.proofs.touched.Touched.stays_with.Goals as goal

pub returns-clause-stays : goal.returns-clause-stays
returns-clause-stays g c =
    rw (← c.self.view_is, ← c.other.view_is) (λ t. stay_touched _ _ (c.if-not-self.false, t))
