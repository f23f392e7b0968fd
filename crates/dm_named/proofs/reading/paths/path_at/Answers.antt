use Rattle.std.proofs.Common.{drop}
use Rattle.dm_named.proofs.PathLemmas.{path_wrong}
use Rattle.dm_named.proofs.reading.paths.path_at.Goals as goal

pub returns-in-Err-clause-err : goal.returns-in-Err-clause-err
returns-in-Err-clause-err g c =
    let text = c.args.text.now in
    rw c.from.ensures (path_wrong c.in-Err.fault (drop c.args.at text) (drop c.skip-at.result text) c.word_at-next.result.0.now (drop c.word_at-next.result.1 text) c.skip-at.ensures.rest c.word_at-next.ensures.word c.in-Err.ensures.none)
