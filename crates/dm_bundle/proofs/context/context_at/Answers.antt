use Rattle.std.proofs.Common.{drop, ◌≡◌, ◌++◌, ◌∷◌, [], sym}
use Rattle.dm_bundle.proofs.ContextLemmas.{one_more}
use Rattle.dm_bundle.proofs.context.context_at.Goals as goal

pub loop-alloc-preserved : goal.loop-alloc-preserved
loop-alloc-preserved g c =
    let text = c.args.text.now in
    let pushed : c.push.new.self.items ≡ c.loop-alloc.infos.items ++ c.in_ok-info.info ∷ [] = c.in_default.ensures.items in (
      c.skip-here-in-loop-alloc.ensures.within,
      rw pushed (one_more c.args.known.now (drop c.args.start text) c.loop-alloc.infos.items (drop c.loop-alloc.here text) c.in_ok-info.info (drop c.in_ok-info.next text) (drop c.skip-here-in-loop-alloc.result text) c.loop-alloc.invariant.1 c.in_ok-info.ensures.ok c.if-contains.ensures c.skip-here-in-loop-alloc.ensures.rest),
    )

pub returns-clause-ok : goal.returns-clause-ok
returns-clause-ok g c =
    let so = c.loop-alloc.invariant.1 in
    record { stands = record { rest = so.mid; read = so.read; ends = rw so.place at c.loop-alloc-test.ensures; apart = so.apart }; behind = sym so.place }
