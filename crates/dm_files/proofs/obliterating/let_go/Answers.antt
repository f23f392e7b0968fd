use Rattle.dm_files.proofs.MirrorLemmas.{if_ok}
use Rattle.dm_files.proofs.obliterating.let_go.Goals as goal

pub returns-in-Ok-clause-keeps : goal.returns-in-Ok-clause-keeps
returns-in-Ok-clause-keeps c = if_ok c.finish.result (λ u done. rw (c.replace.ensures.kinds, c.replace.ensures.base, c.in-Ok.ensures.repo done) at c.in-Ok.ensures.kept) c.finish.ensures
