use Rattle.dm_mail.proofs.WorldLemmas.{reached_in_order}
use Rattle.dm_mail.proofs.laws.world.Goals as goal

pub returns-clause-delivered : goal.returns-clause-delivered
returns-clause-delivered c = λ bound w poster r. (reached_in_order bound w r).delivered poster

pub returns-clause-numbered : goal.returns-clause-numbered
returns-clause-numbered c = λ bound w poster r. (reached_in_order bound w r).numbered poster

pub returns-clause-mark_last : goal.returns-clause-mark_last
returns-clause-mark_last c = λ bound w poster r. (reached_in_order bound w r).mark_last poster

pub returns-clause-bounded : goal.returns-clause-bounded
returns-clause-bounded c = λ bound w r. (reached_in_order bound w r).bounded
