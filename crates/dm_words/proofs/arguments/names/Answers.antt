use Rattle.dm_words.proofs.ArgLemmas.{excluded_still, excluded_now}
use Rattle.dm_words.proofs.arguments.names.Goals as goal

pub returns-clause-excludes_base : goal.returns-clause-excludes_base
returns-clause-excludes_base c = excluded_still c.in_ok-arg.arg c.in_ok-alone.alone _ _ c.in_ok-alone.ensures c.in_ok-arg.ensures.excludes

pub returns-clause-excludes_repository : goal.returns-clause-excludes_repository
returns-clause-excludes_repository c = excluded_now c.in_ok-arg.arg c.in_ok-alone.alone _ c.in_ok-alone.ensures
