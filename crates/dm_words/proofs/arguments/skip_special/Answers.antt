use Rattle.dm_words.proofs.ArgLemmas.{wanted_now}
use Rattle.dm_words.proofs.arguments.skip_special.Goals as goal

pub returns-clause-wants : goal.returns-clause-wants
returns-clause-wants c = wanted_now c.flag-bare.result c.in_ok-arg.arg _ c.in_ok-arg.ensures
