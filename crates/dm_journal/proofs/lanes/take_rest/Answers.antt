use Rattle.std.proofs.Common.{◌≡◌, ◌+◌, ◌*◌, ◌/◌, ℕ, ◌∙◌, length, refl, ap, arith}
use Rattle.dm_journal.specs.Lanes.{lanes_after, stripes}
use Rattle.dm_journal.proofs.Stripes.{lanes_step}
use Rattle.dm_journal.proofs.lanes.take_rest.Goals as goal

pub returns-then-at-text : goal.returns-then-at-text
returns-then-at-text c = λ begin is.
    let text = c.args.text.now in
    let all : length text / 32 ≡ stripes text = omega (arith, c.if-at-text.true) in
    is ∙ ap (lanes_after begin text) all

pub returns : goal.returns
returns c = λ begin is.
    let text = c.args.text.now in
    let lanes = c.args.lanes in
    let at : ℕ = 32 * (length text / 32) in
    let more : stripes text ≡ length text / 32 + 1 = omega (arith, c.if-at-text.false) in
    rw (c.take.ensures, c.take-2.ensures, c.take-3.ensures, c.take-4.ensures, c.rest_at.ensures, c.rest_at-2.ensures, c.rest_at-3.ensures, c.rest_at-4.ensures)
    (lanes_step begin lanes text (length text / 32) (stripes text) at is refl more)
