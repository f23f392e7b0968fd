use Rattle.std.proofs.Common.{refl}
use Rattle.std.proofs.lemmas.Bool.{false_from_ne_true}
use Rattle.dm_tokens.specs.Sets.{in_table}
use Rattle.dm_tokens.specs.Walks.{has, turned}
use Rattle.dm_tokens.proofs.PieceLemmas.{has_piece, piece_from}
use Rattle.dm_tokens.proofs.TurnLemmas.{no_turn, turns_to}
use Rattle.dm_tokens.proofs.turning.turn_into.Goals as goal

pub returns-in-Nothing-clause-nothing : goal.returns-in-Nothing-clause-nothing
returns-in-Nothing-clause-nothing g c = (
  (λ y h.
      no_turn (in_table c.args.set.now) c.args.old.now c.args.new.now c.args.text.now y c.in-Nothing.ensures.0
      (has_piece (in_table c.args.set.now) c.args.text.now c.args.new.now c.in-Nothing.ensures.1) h),
  refl,
)

pub returns-in_ok-push_or_undo-in-Other-clause-turned : goal.returns-in_ok-push_or_undo-in-Other-clause-turned
returns-in_ok-push_or_undo-in-Other-clause-turned g c = (
  turned (in_table c.args.set.now) c.args.old.now c.args.new.now c.args.text.now,
  turns_to (in_table c.args.set.now) c.args.old.now c.args.new.now c.args.text.now
      (λ ne.
      false_from_ne_true (has (in_table c.args.set.now) c.args.text.now c.args.new.now)
      (λ e. c.in-Other.ensures.2 (piece_from (in_table c.args.set.now) c.args.text.now c.args.new.now e))),
  c.in_ok-push_or_undo-in-Other.ensures.ok,
)
