use Rattle.dm_words.proofs.ArgLemmas.{excluded_now}
use Rattle.dm_words.proofs.arguments.repository.Goals as goal

pub returns-clause-excludes : goal.returns-clause-excludes
returns-clause-excludes c = excluded_now c.file-bare.result c.in_ok-alone.alone _ c.in_ok-alone.ensures
