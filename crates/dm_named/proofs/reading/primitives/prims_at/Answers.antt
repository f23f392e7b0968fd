use Rattle.std.proofs.Common.{◌≡◌, ◌≤◌, ◌<◌, ◌++◌, ◌∷◌, [], drop, length, List, arith, refl}
use Rattle.std.proofs.lemmas.List.{map_push}
use Rattle.std.proofs.lemmas.Result.{err_from_is_err_and}
use Rattle.dm_prim.specs.Primitives as P
use Rattle.dm_prim.specs.Prims.{prim_of, prims_of}
use Rattle.dm_named.specs.Patches.{NextPrim}
use Rattle.dm_named.proofs.ManyLemmas.{many_more}
use Rattle.dm_named.proofs.PrimLemmas.{a_head, a_next, too_many, next_wrong, count_map, count_more}
use Rattle.dm_named.proofs.reading.primitives.prims_at.Goals as goal

pub returns-then-len-limits-clause-err : goal.returns-then-len-limits-clause-err
returns-then-len-limits-clause-err g c =
    let text = c.args.text.now in
    let ps : List P.Prim = prims_of c.loop-word.prims.items in
    let many : c.args.limits.prims ≤ length ps = omega (arith, count_map prim_of c.loop-word.prims.items, c.loop-word.prims.ok.0, c.len.ensures, c.if-len-limits.true) in
    too_many c.args.limits (drop c.args.start text) (drop c.loop-word.end text) (drop c.in-Some.here text) ps c.loop-word.invariant.read c.loop-word.invariant.few many c.in-Some.ensures.here (a_head c.args.limits.kinds (drop c.in-Some.here text) (drop c.in-Some.next text) c.in-Some.word c.in-Some.ensures.word c.in-Some.ensures.of_kinds)

pub returns-in_err-prim-clause-err : goal.returns-in_err-prim-clause-err
returns-in_err-prim-clause-err g c =
    let text = c.args.text.now in
    let p = err_from_is_err_and c.from_residual.result c.from_residual.ensures.1 in
    let ps : List P.Prim = prims_of c.loop-word.prims.items in
    let few : length ps < c.args.limits.prims = omega (arith, count_map prim_of c.loop-word.prims.items, c.loop-word.prims.ok.0, c.len.ensures, c.if-len-limits.false) in
    rw (p.1, p.2) (next_wrong c.args.limits c.in_err-prim.field-0.0.kind (drop c.args.start text) (drop c.loop-word.end text) (drop c.in-Some.here text) (drop c.in_err-prim.field-0.0.at text) ps c.loop-word.invariant.read few c.in-Some.ensures.here (a_head c.args.limits.kinds (drop c.in-Some.here text) (drop c.in-Some.next text) c.in-Some.word c.in-Some.ensures.word c.in-Some.ensures.of_kinds) c.in_err-prim.ensures.err)

pub loop-word-preserved : goal.loop-word-preserved
loop-word-preserved g c =
    let text = c.args.text.now in
    let ps : List P.Prim = prims_of c.loop-word.prims.items in
    let items : c.push.new.self.items ≡ c.loop-word.prims.items ++ c.in_ok-prim.prim ∷ [] = c.in_default-push.ensures.items in
    let pushed : prims_of c.push.new.self.items ≡ ps ++ prim_of c.in_ok-prim.prim ∷ [] = rw (items, map_push prim_of c.loop-word.prims.items c.in_ok-prim.prim) refl in
    record {
      forward = omega (arith, c.loop-word.invariant.forward, c.in-Some.ensures.forward, c.in_ok-prim.ensures.forward);
      within = c.in_ok-prim.ensures.within;
      few = rw items (omega (arith, count_more prim_of c.loop-word.prims.items c.in_ok-prim.prim, c.loop-word.prims.ok.0, c.len.ensures, c.if-len-limits.false));
      read = rw pushed (many_more (NextPrim c.args.limits.kinds) (drop c.args.start text) ps (drop c.loop-word.end text) (prim_of c.in_ok-prim.prim) (drop c.in_ok-prim.after text) c.loop-word.invariant.read (a_next c.args.limits.kinds (drop c.loop-word.end text) (drop c.in-Some.here text) (drop c.in-Some.next text) (drop c.in_ok-prim.after text) c.in-Some.word (prim_of c.in_ok-prim.prim) c.in-Some.ensures.here c.in-Some.ensures.word c.in-Some.ensures.of_kinds c.in_ok-prim.ensures.ok));
    }
