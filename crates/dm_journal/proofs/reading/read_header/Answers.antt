use Rattle.std.proofs.Common.{List, ℕ, length, inl, ◌∙◌, ap}
use Rattle.dm_journal.specs.Format.{filled}
use Rattle.dm_journal.proofs.Found.{cut_header, header_here}
use Rattle.dm_journal.proofs.reading.read_header.Goals as goal

pub returns-then-bytes-at-clause-fault : goal.returns-then-bytes-at-clause-fault
returns-then-bytes-at-clause-fault c =
    let is = c.filled-at.ensures.is ∙ ap (λ (l : List ℕ). filled c.in-Some.format (length l)) c.line.ensures.is in
    inl (cut_header c.in-Some.format c.args.bytes.now c.filled-at.result is c.if-bytes-at.true c.in-Some.ensures.some)

pub returns-clause-ok : goal.returns-clause-ok
returns-clause-ok c =
    let is = c.filled-at.ensures.is ∙ ap (λ (l : List ℕ). filled c.in-Some.format (length l)) c.line.ensures.is in
    header_here c.in-Some.format c.args.bytes.now c.filled-at.result is c.if-bytes-at.false c.in-Some.ensures.some
