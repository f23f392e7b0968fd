use Rattle.std.proofs.Common.{drop, sym, ap, ◌∙◌, ◌+◌, ℕ, List}
use Rattle.std.proofs.lemmas.Result.{err_from_is_err_and}
use Rattle.dm_prim.specs.Primitives.{Prim}
use Rattle.dm_prim.specs.Prims.{prims_of}
use Rattle.dm_named.specs.Words.{Begins}
use Rattle.dm_named.specs.ConflictorFaults.{opens, prims, closes}
use Rattle.dm_named.proofs.ConflictorParts.{missing, no_byte}
use Rattle.dm_named.proofs.reading.conflictors.brackets_at.Goals as goal

pub returns-then-not-begins_at-clause-err : goal.returns-then-not-begins_at-clause-err
returns-then-not-begins_at-clause-err g c =
    let text = c.args.text.now in
    opens (missing c.args.limits.kinds c.other_fault.result.kind (Begins 91) (drop c.args.start text) (drop c.skip-open.result text) (drop c.other_fault.result.at text) c.skip-open.ensures.rest (ap (λ (k : ℕ). drop k text) c.other_fault.ensures.place) c.if-not-begins_at.ensures c.other_fault.ensures.wrong)

pub returns-in_err-prims-clause-err : goal.returns-in_err-prims-clause-err
returns-in_err-prims-clause-err g c =
    let text = c.args.text.now in
    let p = err_from_is_err_and c.from_residual.result c.from_residual.ensures.1 in
    rw (p.1, p.2) (prims (record { inside = drop (c.skip-open.result + 1) text; byte = sym c.skip-open.ensures.rest ∙ c.if-not-begins_at.ensures.0; wrong = c.in_err-prims.ensures.err }))

pub returns-then-not-begins_at-2-clause-err : goal.returns-then-not-begins_at-2-clause-err
returns-then-not-begins_at-2-clause-err g c =
    let text = c.args.text.now in
    let inside = drop (c.skip-open.result + 1) text in
    let ps : List Prim = prims_of c.in_ok-prims.prims.items in
    closes (record {
      inside = inside;
      byte = sym c.skip-open.ensures.rest ∙ c.if-not-begins_at.ensures.0;
      wrong = no_byte c.args.limits c.other_fault-then-not-begins_at-2.result.kind 93 inside (drop c.in_ok-prims.end text) (drop c.skip-close.result text) (drop c.other_fault-then-not-begins_at-2.result.at text) ps c.in_ok-prims.ensures.ok c.in_ok-prims.ensures.few c.in_ok-prims.ensures.closed c.skip-close.ensures.rest c.if-not-begins_at-2.ensures (ap (λ (k : ℕ). drop k text) c.other_fault-then-not-begins_at-2.ensures.place) c.other_fault-then-not-begins_at-2.ensures.wrong;
    })
