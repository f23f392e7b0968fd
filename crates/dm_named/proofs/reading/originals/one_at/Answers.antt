use Rattle.std.proofs.Common.{drop, arith}
use Rattle.std.proofs.lemmas.Result.{IfErr-weaker}
use Rattle.dm_named.specs.Faults.{PrimFaultAt}
use Rattle.dm_named.specs.ConflictorFaults.{OneFaultOf}
use Rattle.dm_named.proofs.PrimLemmas.{a_head}
use Rattle.dm_named.proofs.ConflictorParts.{one_wrong}
use Rattle.dm_named.proofs.reading.originals.one_at.Goals as goal

pub returns-clause-err : goal.returns-clause-err
returns-clause-err g c =
    let text = c.args.text.now in
    let here = drop c.in-Some.here text in
    IfErr-weaker c.prim_at.result (λ e. PrimFaultAt e.kind here (drop e.at text)) (λ e. OneFaultOf c.args.limits e.kind c.args.count (drop c.args.start text) (drop e.at text))
    (λ e f. one_wrong c.args.limits e.kind c.args.count (drop c.args.start text) here (drop e.at text) c.in-Some.ensures.here (omega (arith, c.if-count-limits.false)) (a_head c.args.limits.kinds here (drop c.in-Some.next text) c.in-Some.word c.in-Some.ensures.word c.in-Some.ensures.of_kinds) f)
    c.prim_at.ensures.err
