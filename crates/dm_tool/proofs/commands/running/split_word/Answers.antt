use Rattle.std.proofs.Common.{arith}
use Rattle.dm_tool.proofs.WordLemmas.{split_found, split_missed, some_bytes}
use Rattle.dm_tool.proofs.commands.running.split_word.Goals as goal

pub returns-in_err-poster : goal.returns-in_err-poster
returns-in_err-poster c = rw c.from_residual.ensures (split_missed c.args.word.now (c.in_err-poster.ensures.byte (omega arith) (λ w o f. f)))

pub returns : goal.returns
returns c =
    let found = c.in_ok-poster.ensures.byte (omega arith) (λ w o f. f) in
    split_found c.args.word.now c.in_ok-poster.poster.now c.in_ok-poster.file.now found.2 found.0 found.1 (some_bytes c.in_ok-poster.poster.now c.if-is_empty.ensures)
