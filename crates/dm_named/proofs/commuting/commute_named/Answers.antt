use Rattle.std.proofs.Common.{rules, ◌≡◌, true, false}
use Rattle.dm_named.proofs.NamedLemmas.{commuted_back, commuted_laws}
use Rattle.dm_named.proofs.commuting.commute_named.Goals as goal

pub returns-then-branch-clause-laws : goal.returns-then-branch-clause-laws
returns-then-branch-clause-laws g c =
    let yes : c.in_ok-commute_named_in_place.field-0 ≡ true = search rules in
    let n = rw (yes, c.new-first.ensures, c.new-second.ensures, c.in_ok-first.ensures, c.in_ok-second.ensures) at c.in_ok-commute_named_in_place.ensures.commutes in
    rw (c.into_named.ensures, c.into_named-then-branch.ensures) (commuted_laws c.args.x.now c.args.y.now _ _ n)

pub returns-then-branch-clause-back : goal.returns-then-branch-clause-back
returns-then-branch-clause-back g c =
    let yes : c.in_ok-commute_named_in_place.field-0 ≡ true = search rules in
    let n = rw (yes, c.new-first.ensures, c.new-second.ensures, c.in_ok-first.ensures, c.in_ok-second.ensures) at c.in_ok-commute_named_in_place.ensures.commutes in
    rw (c.into_named.ensures, c.into_named-then-branch.ensures) (commuted_back c.args.x.now c.args.y.now _ _ n)

pub returns-clause-answer : goal.returns-clause-answer
returns-clause-answer g c =
    let no : c.in_ok-commute_named_in_place.field-0 ≡ false = search rules in
    rw (no, c.new-first.ensures, c.new-second.ensures, c.in_ok-first.ensures, c.in_ok-second.ensures) at c.in_ok-commute_named_in_place.ensures.commutes
