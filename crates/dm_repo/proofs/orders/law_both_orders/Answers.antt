use Rattle.std.proofs.Common.{inr}
use Rattle.dm_repo.proofs.BothOrders.{both_orders}
use Rattle.dm_repo.proofs.orders.law_both_orders.Goals as goal

pub returns-in_default-2-clause-taken : goal.returns-in_default-2-clause-taken
returns-in_default-2-clause-taken g c = inr (rw c.in_default-2.is at c.in_ok-other.ensures)

pub returns-clause-alike : goal.returns-clause-alike
returns-clause-alike g c = λ wb wc apart.
    both_orders c.args.repo.now.patches c.args.first.now c.args.second.now c.in-Some.one.patches c.in-Some-2.other.patches c.lawful.ensures c.has_no_doubles.ensures c.has_no_doubles-2.ensures
    (rw c.in-Some.is at c.in_ok-one.ensures) (rw c.in-Some-2.is at c.in_ok-other.ensures) wb wc apart
