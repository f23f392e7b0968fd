use Rattle.std.proofs.Common.{drop, sym, ◌∙◌, ◌+◌, inl, refl}
use Rattle.std.proofs.lemmas.Result.{err_from_is_err_and}
use Rattle.dm_named.specs.Faults.{in_braces}
use Rattle.dm_prim.specs.Prims.{prims_of}
use Rattle.dm_named.proofs.BodyLemmas.{brace_wrong, run_wrong, a_run}
use Rattle.dm_named.proofs.reading.bodies.body_at.Goals as goal

pub brace_fault-requires-clause-no_prim : goal.brace_fault-requires-clause-no_prim
brace_fault-requires-clause-no_prim g c = rw c.skip-close.ensures.rest c.in_ok-prims.ensures.closed

pub returns-in_err-prims-clause-err : goal.returns-in_err-prims-clause-err
returns-in_err-prims-clause-err g c =
    let text = c.args.text.now in
    let p = err_from_is_err_and c.from_residual.result c.from_residual.ensures.1 in
    rw (p.1, p.2) (in_braces (drop (c.skip-here.result + 1) text) (sym c.skip-here.ensures.rest ∙ c.if-begins_at.ensures.0) (inl c.in_err-prims.ensures.err))

pub returns-then-begins_at-clause-err : goal.returns-then-begins_at-clause-err
returns-then-begins_at-clause-err g c =
    let text = c.args.text.now in
    brace_wrong c.args.limits c.brace_fault.result (drop c.args.start text) (drop (c.skip-here.result + 1) text) (drop c.in_ok-prims.end text) (drop c.skip-close.result text) (prims_of c.in_ok-prims.prims.items) (sym c.skip-here.ensures.rest ∙ c.if-begins_at.ensures.0) c.in_ok-prims.ensures.ok c.in_ok-prims.ensures.few c.skip-close.ensures.rest c.brace_fault.ensures

pub returns-then-is_unsupported_at-clause-err : goal.returns-then-is_unsupported_at-clause-err
returns-then-is_unsupported_at-clause-err g c =
    let text = c.args.text.now in
    run_wrong c.args.limits (drop c.args.start text) (drop c.in_ok-prims-2.end text) (drop c.skip-next.result text) (prims_of c.in_ok-prims-2.prims.items) (rw (← c.skip-here.ensures.rest) c.if-begins_at.ensures) c.in_ok-prims-2.ensures.ok c.in_ok-prims-2.ensures.few c.skip-next.ensures.rest (refl, c.if-is_unsupported_at.ensures)

pub returns-clause-ok : goal.returns-clause-ok
returns-clause-ok g c =
    let text = c.args.text.now in
    a_run c.args.limits.kinds (drop c.args.start text) (drop c.in_ok-prims-2.end text) (drop c.skip-next.result text) (prims_of c.in_ok-prims-2.prims.items) (rw (← c.skip-here.ensures.rest) c.if-begins_at.ensures) c.in_ok-prims-2.ensures.ok c.in_ok-prims-2.ensures.closed c.skip-next.ensures.rest c.if-is_unsupported_at.ensures.0 c.if-is_unsupported_at.ensures.1
