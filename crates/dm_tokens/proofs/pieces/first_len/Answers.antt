use Rattle.std.proofs.Common.{length, arith}
use Rattle.dm_tokens.specs.Sets.{in_table}
use Rattle.dm_tokens.proofs.PieceLemmas.{first_piece, unlike}
use Rattle.dm_tokens.proofs.pieces.first_len.Goals as goal

pub returns-then-contains-inside-clause-piece : goal.returns-then-contains-inside-clause-piece
returns-then-contains-inside-clause-piece c =
    first_piece (in_table c.args.set.now) c.args.text.now c.loop-i.i (omega arith) (omega arith) c.loop-i.invariant
    (λ more. unlike c.contains.result c.contains-inside.result _ _ c.contains.ensures c.contains-inside.ensures c.if-contains-inside.true)

pub returns-clause-piece : goal.returns-clause-piece
returns-clause-piece c =
    first_piece (in_table c.args.set.now) c.args.text.now (length c.args.text.now) c.requires (omega arith) (λ k lt. c.loop-i.invariant k (omega arith)) (λ more. absurd (omega arith))
