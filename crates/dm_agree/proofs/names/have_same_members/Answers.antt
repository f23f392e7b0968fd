use Rattle.dm_agree.proofs.Agreed.{both_ways}
use Rattle.dm_agree.proofs.names.have_same_members.Goals as goal

pub returns-then-all : goal.returns-then-all
returns-then-all g c = both_ways c.args.infos.now c.args.others.now c.are_among-then-all.result (rw c.if-all.true at c.in_ok-all.ensures) c.are_among-then-all.ensures

pub returns : goal.returns
returns g c = let f = rw c.if-all.false at c.in_ok-all.ensures in λ s. f (λ i. (s i).0)
