use Rattle.std.proofs.Common.{◌<◌, ◌-◌, [], ◌∷◌, ◌++◌, length, sym, ap, ◌∙◌, arith}
use Rattle.std.specs.Prelude.{codes, slice_get}
use Rattle.dm_info.specs.Spelling.{canonical}
use Rattle.dm_log.proofs.LogLemmas.{context_turn}
use Rattle.dm_log.proofs.context.write_context.Goals as goal

pub loop-k-preserved : goal.loop-k-preserved
loop-k-preserved g c =
    let ps = g.P.Patches.patches c.args.patches.now in
    let k = c.loop-k.k in
    let within : k < length ps = omega (arith, c.loop-k-test.true, c.count-all.ensures) in
    context_turn (codes "\nContext:\n\n") ps k c.at.result.now c.loop-k.text.items c.push-in-loop-k.new.self.items within
    (ap (λ n. slice_get ps (n - 1 - k)) (sym c.count-all.ensures) ∙ c.at.ensures)
    c.loop-k.invariant
    (c.in_ok-push-2.ensures.items ∙ ap (λ t. t ++ 10 ∷ []) ((rw c.info.ensures at c.in_ok-push_info.ensures.ok) ∙ ap (λ t. t ++ canonical c.at.result.now.info) c.in_ok-push.ensures.items))
