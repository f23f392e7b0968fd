use Rattle.std.proofs.Common.{drop}
use Rattle.std.proofs.lemmas.Result.{err_from_is_err_and}
use Rattle.dm_named.specs.Faults.{path, second, hunk, binary, replace}
use Rattle.dm_named.specs.BodyWords.{path_word_of}
use Rattle.dm_named.specs.declared.reading.words.AtPath.TheVariants as H
use Rattle.dm_named.proofs.PrimLemmas.{path_among, head_is}
use Rattle.dm_named.proofs.reading.primitives.with_path_at.Goals as goal

pub returns-in_err-path-clause-err : goal.returns-in_err-path-clause-err
returns-in_err-path-clause-err g c =
    let text = c.args.text.now in
    let p = err_from_is_err_and c.from_residual.result c.from_residual.ensures.1 in
    rw (p.1, p.2) (path (record { word = path_word_of c.args.word; rest = drop c.args.at text; stands = c.requires.word; among = path_among c.args.word }) c.in_err-path.ensures.err)

pub returns-in_err-to-in-Move-clause-err : goal.returns-in_err-to-in-Move-clause-err
returns-in_err-to-in-Move-clause-err g c =
    let text = c.args.text.now in
    let p = err_from_is_err_and c.from_residual-in_err-to-in-Move.result c.from_residual-in_err-to-in-Move.ensures.1 in
    rw (p.1, p.2)
    (second c.in_ok-path.path (drop c.in_ok-path.next text)
    (record { after = drop c.args.at text; named = head_is (drop c.args.start text) (drop c.args.at text) c.args.word H.Move c.in-Move.is c.requires.word; path = c.in_ok-path.ensures.ok })
    c.in_err-to-in-Move.ensures.err)

pub returns-in_err-hunk-in-Hunk-clause-err : goal.returns-in_err-hunk-in-Hunk-clause-err
returns-in_err-hunk-in-Hunk-clause-err g c =
    let text = c.args.text.now in
    let p = err_from_is_err_and c.from_residual-in_err-hunk-in-Hunk.result c.from_residual-in_err-hunk-in-Hunk.ensures.1 in
    rw (p.1, p.2)
    (hunk c.in_ok-path.path (drop c.in_ok-path.next text)
    (record { after = drop c.args.at text; named = head_is (drop c.args.start text) (drop c.args.at text) c.args.word H.Hunk c.in-Hunk.is c.requires.word; path = c.in_ok-path.ensures.ok })
    c.in_err-hunk-in-Hunk.ensures.err)

pub returns-in_err-binary-in-Binary-clause-err : goal.returns-in_err-binary-in-Binary-clause-err
returns-in_err-binary-in-Binary-clause-err g c =
    let text = c.args.text.now in
    let p = err_from_is_err_and c.from_residual-in_err-binary-in-Binary.result c.from_residual-in_err-binary-in-Binary.ensures.1 in
    rw (p.1, p.2)
    (binary c.in_ok-path.path (drop c.in_ok-path.next text)
    (record { after = drop c.args.at text; named = head_is (drop c.args.start text) (drop c.args.at text) c.args.word H.Binary c.in-Binary.is c.requires.word; path = c.in_ok-path.ensures.ok })
    c.in_err-binary-in-Binary.ensures.err)

pub returns-in_err-replace-in-Replace-clause-err : goal.returns-in_err-replace-in-Replace-clause-err
returns-in_err-replace-in-Replace-clause-err g c =
    let text = c.args.text.now in
    let p = err_from_is_err_and c.from_residual-in_err-replace-in-Replace.result c.from_residual-in_err-replace-in-Replace.ensures.1 in
    rw (p.1, p.2)
    (replace c.in_ok-path.path (drop c.in_ok-path.next text)
    (record { after = drop c.args.at text; named = head_is (drop c.args.start text) (drop c.args.at text) c.args.word H.Replace c.in-Replace.is c.requires.word; path = c.in_ok-path.ensures.ok })
    c.in_err-replace-in-Replace.ensures.err)
