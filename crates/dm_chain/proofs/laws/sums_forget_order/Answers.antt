use Rattle.dm_chain.proofs.Adding.{sums_forget_order}
use Rattle.dm_chain.proofs.laws.sums_forget_order.Goals as goal

pub returns : goal.returns
returns g c = sums_forget_order _
