use Rattle.dm_explain.proofs.FateLemmas.{taken_at}
use Rattle.dm_explain.proofs.fates.fate_of.Goals as goal

pub returns-else-k-before : goal.returns-else-k-before
returns-else-k-before c = taken_at c.args.repo.now.patches c.args.before c.in-Some.k c.args.info.now c.requires (rw c.in-Some.is at c.position.ensures) c.if-k-before.false
