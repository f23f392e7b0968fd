use Rattle.std.proofs.Common.{◌≡◌, drop, length, sym, ap, subst, ◌∙◌, ◌+◌, ℕ, List, arith}
use Rattle.std.proofs.lemmas.Result.{err_from_is_err_and}
use Rattle.dm_prim.specs.Primitives.{Prim}
use Rattle.dm_prim.specs.Prims.{prim_of, prims_of}
use Rattle.dm_named.specs.ConflictorFaults.{OneFaultOf, colon, prim}
use Rattle.dm_named.proofs.PrimLemmas.{count_map}
use Rattle.dm_named.proofs.ConflictorParts.{no_byte}
use Rattle.dm_named.proofs.reading.originals.original_at.Goals as goal

pub returns-then-not-begins_at-clause-err : goal.returns-then-not-begins_at-clause-err
returns-then-not-begins_at-clause-err g c =
    let text = c.args.text.now in
    let ps : List Prim = prims_of c.in_ok-context.context.items in
    colon (no_byte c.args.limits c.other_fault.result.kind 58 (drop c.args.start text) (drop c.in_ok-context.end text) (drop c.skip-colon.result text) (drop c.other_fault.result.at text) ps c.in_ok-context.ensures.ok c.in_ok-context.ensures.few c.in_ok-context.ensures.closed c.skip-colon.ensures.rest c.if-not-begins_at.ensures (ap (λ (k : ℕ). drop k text) c.other_fault.ensures.place) c.other_fault.ensures.wrong)

pub returns-in_err-prim-clause-err : goal.returns-in_err-prim-clause-err
returns-in_err-prim-clause-err g c =
    let text = c.args.text.now in
    let p = err_from_is_err_and c.from_residual-in_err-prim.result c.from_residual-in_err-prim.ensures.1 in
    let last = drop (c.skip-colon.result + 1) text in
    let fault = c.in_err-prim.field-0.0 in
    let ps : List Prim = prims_of c.in_ok-context.context.items in
    let same : c.len.result ≡ length ps = omega (arith, count_map prim_of c.in_ok-context.context.items, c.in_ok-context.context.ok.0, c.len.ensures) in
    rw (p.1, p.2) (prim (record {
      prims = ps;
      mid = drop c.in_ok-context.end text;
      read = c.in_ok-context.ensures.ok;
      few = c.in_ok-context.ensures.few;
      wrong = record {
        inside = last;
        byte = sym c.skip-colon.ensures.rest ∙ c.if-not-begins_at.ensures.0;
        wrong = subst (λ (n : ℕ). OneFaultOf c.args.limits fault.kind n last (drop fault.at text)) same c.in_err-prim.ensures.err;
      };
    }))
