use Rattle.std.proofs.Common.{◌≡◌, ◌++◌, ◌∷◌, [], drop, ℕ, List, ap, ◌∙◌, arith}
use Rattle.dm_named.specs.Conflictors.{Original}
use Rattle.dm_named.specs.ConflictorFaults.{less}
use Rattle.dm_named.proofs.ConflictorParts.{original_more, few_more, left_more}
use Rattle.dm_named.proofs.reading.originals.originals_at.Goals as goal

pub loop-alloc-preserved : goal.loop-alloc-preserved
loop-alloc-preserved g c =
    let text = c.args.text.now in
    let so = c.loop-alloc.invariant in
    let left = c.loop-alloc.left in
    let os : List Original = c.loop-alloc.originals.items in
    let o : Original = c.in_ok-original.original in
    let pushed : c.push.new.self.items ≡ os ++ o ∷ [] = c.in_default.ensures.items in
    record {
      forward = omega (arith, so.forward, c.in_ok-original.ensures.forward);
      within = c.in_ok-original.ensures.within;
      few = rw pushed (few_more c.args.limits left os o so.left so.few c.in_ok-original.ensures.few);
      left = rw pushed (c.less-left.ensures ∙ ap (λ (n : ℕ). less left n) c.size.ensures ∙ left_more c.args.limits left os o so.left);
      read = rw pushed (original_more c.args.limits left (drop c.args.start text) (drop c.loop-alloc.end text) (drop c.in_ok-original.after text) os o so.read so.left c.in_ok-original.ensures.ok);
    }
