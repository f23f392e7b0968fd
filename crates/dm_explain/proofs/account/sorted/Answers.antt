use Rattle.dm_explain.proofs.account.sorted.Goals as goal

pub returns : goal.returns
returns c = rw (c.saturating_sub-before.ensures, c.len.ensures.value) at c.in_ok-fates_of.ensures
