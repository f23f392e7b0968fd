use Rattle.std.proofs.Common.{inl, inr}
use Rattle.dm_store.proofs.StoredLemmas.{weakened}
use Rattle.dm_store.proofs.store.Store.let_go.Goals as goal

pub returns-clause-any_moment : goal.returns-clause-any_moment
returns-clause-any_moment g c = weakened g.D.Device.moment g.D.Device.left_since _ _ _ _ (λ file keeps. elim keeps [ inl k ↦ inl k | inr k ↦ inr (k, c.requires.saved) ]) c.replace.ensures.any_moment
