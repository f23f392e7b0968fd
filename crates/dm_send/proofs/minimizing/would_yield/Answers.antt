use Rattle.std.proofs.Common.{◌≡◌, true, false}
use Rattle.dm_named.specs.Commuting.{NamedCommutes}
use Rattle.dm_repo.proofs.Squares.{named_one}
use Rattle.dm_send.proofs.Rows.{yield_answer, yield_stuck}
use Rattle.dm_send.proofs.minimizing.would_yield.Goals as goal

pub returns-then-not-branch-clause-yields : goal.returns-then-not-branch-clause-yields
returns-then-not-branch-clause-yields g c =
    let no : c.in_ok-would_pass_all.field-0 ≡ false = c.if-not-branch.true in
    yield_stuck NamedCommutes named_one (rw (no, c.in_ok-asked.ensures) at c.in_ok-would_pass_all.ensures.row)

pub returns-clause-yields : goal.returns-clause-yields
returns-clause-yields g c =
    let yes : c.in_ok-would_pass_all.field-0 ≡ true = c.if-not-branch.false in
    let past = rw (yes, c.in_ok-asked.ensures) at c.in_ok-would_pass_all.ensures.row in
    yield_answer NamedCommutes named_one c.in_ok-yields.yields c.would_pass_all-2.new.patch c.args.sent.now past.1 c.in_ok-yields.ensures.row
