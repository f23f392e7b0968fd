use Rattle.dm_words.proofs.ArgLemmas.{excluded_after, excluded_now, wanted_now}
use Rattle.dm_words.proofs.arguments.folder_beside_repository.Goals as goal

pub returns-clause-wants : goal.returns-clause-wants
returns-clause-wants c = wanted_now c.in_ok-alone.alone c.in_ok-arg.arg _ c.in_ok-arg.ensures

pub returns-clause-excludes : goal.returns-clause-excludes
returns-clause-excludes c = excluded_after c.in_ok-alone.alone c.in_ok-arg.arg _ _ c.in_ok-arg.ensures (excluded_now c.place-bare.result c.in_ok-alone.alone _ c.in_ok-alone.ensures)
