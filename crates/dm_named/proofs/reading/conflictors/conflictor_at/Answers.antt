use Rattle.std.proofs.Common.{drop, refl}
use Rattle.dm_named.specs.ConflictorFaults.{word}
use Rattle.dm_named.proofs.ConflictorParts.{other_word}
use Rattle.dm_named.proofs.reading.conflictors.conflictor_at.Goals as goal

pub returns-then-not-same-clause-err : goal.returns-then-not-same-clause-err
returns-then-not-same-clause-err g c =
    let text = c.args.text.now in
    word refl refl (other_word (drop c.args.at text) c.word_at-next.result.0.now (drop c.word_at-next.result.1 text) c.word_at-next.ensures.word c.if-not-same.ensures)
