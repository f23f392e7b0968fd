use Rattle.std.proofs.Common.{refl, sym, take, drop, ◌∙◌}
use Rattle.std.proofs.lemmas.Bool.{false≢true}
use Rattle.dm_tokens.specs.Sets.{in_table}
use Rattle.dm_tokens.proofs.PieceLemmas.{empty_rest, has_first, has_left, has_none, has_piece, piece_from}
use Rattle.dm_tokens.proofs.pieces.has_piece.Goals as goal

pub returns-then-eq : goal.returns-then-eq
returns-then-eq c = (
  (λ t.
      piece_from (in_table c.args.set.now) c.args.text.now c.args.piece.now
      (c.loop-piece.invariant
      ∙ has_first (in_table c.args.set.now) c.loop-piece.rest.now c.args.piece.now (take c.first_len-len.result c.loop-piece.rest.now) (drop c.first_len-len.result c.loop-piece.rest.now)
      c.first_len-len.ensures.piece (sym c.eq.ensures ∙ c.if-eq.true))),
  (λ h. refl),
)

pub loop-piece-preserved : goal.loop-piece-preserved
loop-piece-preserved c =
    c.loop-piece.invariant
    ∙ has_left (in_table c.args.set.now) c.loop-piece.rest.now c.args.piece.now c.first_len-len.result c.first_len-len.ensures.piece (sym c.eq.ensures ∙ c.if-eq.false)

pub returns : goal.returns
returns c = (
  (λ e. absurd (false≢true e)),
  (λ h.
      absurd
      (false≢true
      (sym
      (c.loop-piece.invariant
      ∙ has_none (in_table c.args.set.now) c.loop-piece.rest.now c.args.piece.now (empty_rest c.loop-piece.rest.now c.is_empty.result c.is_empty.ensures c.loop-piece-test.false))
      ∙ has_piece (in_table c.args.set.now) c.args.text.now c.args.piece.now h))),
)
