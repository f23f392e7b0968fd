use Rattle.std.proofs.lemmas.Result.{err_from_is_err_and}
use Rattle.dm_named.proofs.PathLemmas.{long_name_at}
use Rattle.dm_named.proofs.reading.paths.slash_name.Goals as goal

pub returns-in_err-name-clause-none : goal.returns-in_err-name-clause-none
returns-in_err-name-clause-none g c =
    let p = err_from_is_err_and c.from_residual.result c.from_residual.ensures.1 in
    rw (p.1, p.2) (λ is. long_name_at c.args.text.now c.in-Some.inside.now c.piece_of.result.0.now c.piece_of.result.1.now c.in-Some.ensures c.piece_of.ensures (c.in_err-name.ensures.none is))
