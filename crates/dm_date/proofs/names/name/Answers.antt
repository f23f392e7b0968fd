use Rattle.std.proofs.Common.{arith, ◌≡◌, ℕ, ◌<◌, List, [], ◌∷◌, length, drop, drop-cons, sym, ◌∙◌, refl, None}
use Rattle.dm_date.specs.Names.{name}
use Rattle.dm_date.proofs.names.name.Goals as goal

-- A letter is still due, and the text is at its end.
letter_due : (i : ℕ) (letters text : List ℕ) → i < length letters → length text < 1 → name (drop i letters) text ≡ None
unfolding name
letter_due i letters [] due end = rw (drop-cons letters i 0) refl
letter_due i letters (c ∷ text) due end = absurd (let h : ⊥ = omega arith in h)

pub returns-in_default : goal.returns-in_default
returns-in_default c = sym (letter_due c.loop-letter.letter-index c.args.letters.now c.loop-letter.rest.now (omega arith) c.in_default.len_below) ∙ c.loop-letter.invariant
