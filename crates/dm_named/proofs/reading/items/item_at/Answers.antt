use Rattle.std.proofs.Common.{drop, arith}
use Rattle.std.proofs.lemmas.Result.{err_from_is_err_and}
use Rattle.dm_named.proofs.ItemParts.{prim_wrong, conflictor_wrong}
use Rattle.dm_named.proofs.reading.items.item_at.Goals as goal

pub returns-in_err-prim-in-Prim-clause-err : goal.returns-in_err-prim-in-Prim-clause-err
returns-in_err-prim-in-Prim-clause-err g c =
    let text = c.args.text.now in
    let p = err_from_is_err_and c.from_residual.result c.from_residual.ensures.1 in
    let fault = c.in_err-prim-in-Prim.field-0.0 in
    rw (p.1, p.2) (prim_wrong c.args.limits fault.kind c.args.word c.in-Prim.word (drop c.args.start text) (drop c.args.at text) (drop fault.at text) c.in-Prim.is c.requires.word c.requires.of_kinds (omega (arith, c.if-limits-eq0.false)) c.in_err-prim-in-Prim.ensures.err)

pub returns-in_err-conflictor-in-Conflictor-clause-err : goal.returns-in_err-conflictor-in-Conflictor-clause-err
returns-in_err-conflictor-in-Conflictor-clause-err g c =
    let text = c.args.text.now in
    let p = err_from_is_err_and c.from_residual-in_err-conflictor-in-Conflictor.result c.from_residual-in_err-conflictor-in-Conflictor.ensures.1 in
    let fault = c.in_err-conflictor-in-Conflictor.field-0.0 in
    rw (p.1, p.2) (conflictor_wrong c.args.limits fault.kind c.args.word (drop c.args.start text) (drop c.args.at text) (drop fault.at text) c.in-Conflictor.is c.requires.word c.in_err-conflictor-in-Conflictor.ensures.err)
