use Rattle.std.proofs.Common.{ℕ, Bool, List, take, drop, ◌||◌, sym, ap, subst, ◌∙◌}
use Rattle.std.proofs.lemmas.Bool.{false≢true}
use Rattle.dm_tokens.specs.Sets.{in_table}
use Rattle.dm_tokens.specs.Turning.{Turns}
use Rattle.dm_tokens.specs.Walks.{has}
use Rattle.dm_tokens.proofs.PieceLemmas.{empty_rest, has_first, has_left, has_none, has_piece, piece_from}
use Rattle.dm_tokens.proofs.TurnLemmas.{or_found, or_kept, other_bytes, same_bytes, stays, turns_itself, turns_to}
use Rattle.dm_tokens.proofs.turning.turns.Goals as goal
use Rattle.dm_tokens.proofs.turning.turns.Goals.{then-eq-3, else-eq-3}

pub returns-then-eq : goal.returns-then-eq
returns-then-eq c =
    subst (λ (v : List ℕ). Turns (in_table c.args.set.now) c.args.old.now v c.args.text.now c.args.text.now)
    (same_bytes c.args.old.now c.args.new.now (sym c.eq.ensures ∙ c.if-eq.true))
    (turns_itself (in_table c.args.set.now) c.args.old.now c.args.text.now)

pub returns-then-eq-2 : goal.returns-then-eq-2
returns-then-eq-2 c = (
  other_bytes c.args.old.now c.args.new.now (sym c.eq.ensures ∙ c.if-eq.false),
  piece_from (in_table c.args.set.now) c.args.text.now c.args.new.now
      (c.loop-old.invariant.new_left
      ∙ has_first (in_table c.args.set.now) c.loop-old.rest.now c.args.new.now (take c.first_len-len.result c.loop-old.rest.now) (drop c.first_len-len.result c.loop-old.rest.now)
      c.first_len-len.ensures.piece (sym c.eq-in-loop-old.ensures ∙ c.if-eq-2.true)),
)

pub loop-old-preserved : goal.loop-old-preserved
loop-old-preserved c = record {
  new_left =
      c.loop-old.invariant.new_left
      ∙ has_left (in_table c.args.set.now) c.loop-old.rest.now c.args.new.now c.first_len-len.result c.first_len-len.ensures.piece (sym c.eq-in-loop-old.ensures ∙ c.if-eq-2.false);
  old_left = elim c.if-eq-3.branch [
    | then-eq-3 w ↦
        or_found _ c.loop-old.has_old (has (in_table c.args.set.now) c.loop-old.rest.now c.args.old.now) c.if-eq-3.has_old _ c.loop-old.invariant.old_left
        (has_first (in_table c.args.set.now) c.loop-old.rest.now c.args.old.now (take c.first_len-len.result c.loop-old.rest.now) (drop c.first_len-len.result c.loop-old.rest.now)
        c.first_len-len.ensures.piece (sym c.eq-in-loop-old-2.ensures ∙ w.if-eq-3.true))
        w.has_old-is
    | else-eq-3 w ↦
        or_kept _ c.loop-old.has_old (has (in_table c.args.set.now) c.loop-old.rest.now c.args.old.now) c.if-eq-3.has_old _ c.loop-old.invariant.old_left
        (has_left (in_table c.args.set.now) c.loop-old.rest.now c.args.old.now c.first_len-len.result c.first_len-len.ensures.piece (sym c.eq-in-loop-old-2.ensures ∙ w.if-eq-3.false))
        w.has_old-is
  ];
}

pub returns-then-has_old : goal.returns-then-has_old
returns-then-has_old c = (
  other_bytes c.args.old.now c.args.new.now (sym c.eq.ensures ∙ c.if-eq.false),
  piece_from (in_table c.args.set.now) c.args.text.now c.args.old.now
      (c.loop-old.invariant.old_left ∙ ap (λ (v : Bool). v || has (in_table c.args.set.now) c.loop-old.rest.now c.args.old.now) c.if-has_old.true),
  (λ h.
      false≢true
      (sym
      (c.loop-old.invariant.new_left
      ∙ has_none (in_table c.args.set.now) c.loop-old.rest.now c.args.new.now (empty_rest c.loop-old.rest.now c.is_empty.result c.is_empty.ensures c.loop-old-test.false))
      ∙ has_piece (in_table c.args.set.now) c.args.text.now c.args.new.now h)),
)

pub returns-else-has_old : goal.returns-else-has_old
returns-else-has_old c =
    let nothing = empty_rest c.loop-old.rest.now c.is_empty.result c.is_empty.ensures c.loop-old-test.false in
    subst (λ (v : List ℕ). Turns (in_table c.args.set.now) c.args.old.now c.args.new.now c.args.text.now v)
    (stays (in_table c.args.set.now) c.args.old.now c.args.new.now c.args.text.now
    (c.loop-old.invariant.old_left
    ∙ ap (λ (v : Bool). v || has (in_table c.args.set.now) c.loop-old.rest.now c.args.old.now) c.if-has_old.false
    ∙ has_none (in_table c.args.set.now) c.loop-old.rest.now c.args.old.now nothing))
    (turns_to (in_table c.args.set.now) c.args.old.now c.args.new.now c.args.text.now
    (λ ne. c.loop-old.invariant.new_left ∙ has_none (in_table c.args.set.now) c.loop-old.rest.now c.args.new.now nothing))
