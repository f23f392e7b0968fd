use Rattle.dm_repo.proofs.OrdersOnce.{both_orders_one}
use Rattle.dm_repo.proofs.laws.both_orders_have_one_answer.Goals as goal

pub returns : goal.returns
returns c = both_orders_one
