use Rattle.dm_facts.proofs.HeapLemmas.{orders_alike}
use Rattle.dm_facts.proofs.laws.heaps_forget_order.Goals as goal

pub returns : goal.returns
returns c = orders_alike
