use Rattle.std.proofs.Common.{drop, sym, ◌∙◌, ◌+◌, inl, refl, List}
use Rattle.std.proofs.lemmas.Result.{err_from_is_err_and}
use Rattle.dm_named.specs.Words.{skipped}
use Rattle.dm_named.specs.MergedPatches.{Item}
use Rattle.dm_named.specs.MergedFaults.{in_braces}
use Rattle.dm_named.specs.Items.{items_of}
use Rattle.dm_named.proofs.ItemParts.{no_prim_here, brace_wrong, run_wrong, a_run}
use Rattle.dm_named.proofs.reading.items.body_of_items_at.Goals as goal

pub brace_fault-requires-clause-no_prim : goal.brace_fault-requires-clause-no_prim
brace_fault-requires-clause-no_prim g c =
    let text = c.args.text.now in
    no_prim_here c.args.limits.kinds (skipped (drop c.in_ok-items.end text)) (drop c.skip-close.result text) c.skip-close.ensures.rest c.in_ok-items.ensures.closed

pub returns-in_err-items-clause-err : goal.returns-in_err-items-clause-err
returns-in_err-items-clause-err g c =
    let text = c.args.text.now in
    let p = err_from_is_err_and c.from_residual.result c.from_residual.ensures.1 in
    rw (p.1, p.2) (in_braces (drop (c.skip-here.result + 1) text) (sym c.skip-here.ensures.rest ∙ c.if-begins_at.ensures.0) (inl c.in_err-items.ensures.err))

pub returns-then-begins_at-clause-err : goal.returns-then-begins_at-clause-err
returns-then-begins_at-clause-err g c =
    let text = c.args.text.now in
    let is : List Item = items_of c.in_ok-items.items.items in
    brace_wrong c.args.limits c.brace_fault.result (drop c.args.start text) (drop (c.skip-here.result + 1) text) (drop c.in_ok-items.end text) (drop c.skip-close.result text) is (sym c.skip-here.ensures.rest ∙ c.if-begins_at.ensures.0) c.in_ok-items.ensures.ok c.in_ok-items.ensures.few c.in_ok-items.ensures.closed c.skip-close.ensures.rest c.brace_fault.ensures

pub returns-then-is_unsupported_at-clause-err : goal.returns-then-is_unsupported_at-clause-err
returns-then-is_unsupported_at-clause-err g c =
    let text = c.args.text.now in
    let is : List Item = items_of c.in_ok-items-2.items.items in
    run_wrong c.args.limits (drop c.args.start text) (drop c.in_ok-items-2.end text) (drop c.skip-next.result text) is (rw (← c.skip-here.ensures.rest) c.if-begins_at.ensures) c.in_ok-items-2.ensures.ok c.in_ok-items-2.ensures.few c.in_ok-items-2.ensures.closed c.skip-next.ensures.rest (refl, c.if-is_unsupported_at.ensures)

pub returns-clause-ok : goal.returns-clause-ok
returns-clause-ok g c =
    let text = c.args.text.now in
    let is : List Item = items_of c.in_ok-items-2.items.items in
    a_run c.args.limits.kinds (drop c.args.start text) (drop c.in_ok-items-2.end text) (drop c.skip-next.result text) is (rw (← c.skip-here.ensures.rest) c.if-begins_at.ensures) c.in_ok-items-2.ensures.ok c.in_ok-items-2.ensures.closed c.skip-next.ensures.rest c.if-is_unsupported_at.ensures.0 c.if-is_unsupported_at.ensures.1
