use Rattle.std.proofs.Common.{drop, refl, sym, ap, ◌∙◌, ◌+◌, ℕ, inl, inr}
use Rattle.std.proofs.lemmas.Result.{err_from_is_err_and}
use Rattle.dm_named.proofs.ConflictorParts.{no_closing}
use Rattle.dm_named.proofs.reading.conflictors.partners_at.Goals as goal

pub returns-then-not-begins_twice_at-clause-ok : goal.returns-then-not-begins_twice_at-clause-ok
returns-then-not-begins_twice_at-clause-ok g c = inr (rw (← c.skip-here.ensures.rest) c.if-not-begins_twice_at.ensures, c.new.ensures.items, refl)

pub returns-in_err-partners-clause-err : goal.returns-in_err-partners-clause-err
returns-in_err-partners-clause-err g c =
    let text = c.args.text.now in
    let p = err_from_is_err_and c.from_residual.result c.from_residual.ensures.1 in
    rw (p.1, p.2) (record { inside = drop (c.skip-here.result + 2) text; opens = sym c.skip-here.ensures.rest ∙ c.if-not-begins_twice_at.ensures.0; wrong = inl c.in_err-partners.ensures.err })

pub returns-then-not-begins_twice_at-2-clause-err : goal.returns-then-not-begins_twice_at-2-clause-err
returns-then-not-begins_twice_at-2-clause-err g c =
    let text = c.args.text.now in
    let inside = drop (c.skip-here.result + 2) text in
    record {
      inside = inside;
      opens = sym c.skip-here.ensures.rest ∙ c.if-not-begins_twice_at.ensures.0;
      wrong = inr (no_closing c.args.limits c.other_fault.result.kind inside (drop c.in_ok-partners.end text) (drop c.skip-close.result text) (drop c.other_fault.result.at text) c.in_ok-partners.partners.items c.in_ok-partners.ensures.ok c.in_ok-partners.ensures.few c.in_ok-partners.ensures.closed c.skip-close.ensures.rest c.if-not-begins_twice_at-2.ensures (ap (λ (k : ℕ). drop k text) c.other_fault.ensures.place) c.other_fault.ensures.wrong);
    }
