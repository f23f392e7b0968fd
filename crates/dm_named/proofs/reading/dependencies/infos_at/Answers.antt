use Rattle.std.proofs.Common.{◌≡◌, ◌++◌, ◌∷◌, [], drop, arith}
use Rattle.dm_named.specs.Patches.{NextInfo}
use Rattle.dm_named.proofs.ManyLemmas.{many_more}
use Rattle.dm_named.proofs.reading.dependencies.infos_at.Goals as goal

pub loop-alloc-preserved : goal.loop-alloc-preserved
loop-alloc-preserved g c =
    let text = c.args.text.now in
    let so = c.loop-alloc.invariant in
    let pushed : c.push.new.self.items ≡ c.loop-alloc.infos.items ++ c.in_ok-info.info ∷ [] = c.in_default.ensures.items in
    record {
      forward = omega (arith, so.forward, so.ahead, c.in_ok-info.ensures.forward);
      ahead = c.skip-here-in-loop-alloc.ensures.forward;
      within = c.skip-here-in-loop-alloc.ensures.within;
      white = c.skip-here-in-loop-alloc.ensures.rest;
      read = rw pushed (many_more NextInfo (drop c.args.start text) c.loop-alloc.infos.items (drop c.loop-alloc.end text) c.in_ok-info.info (drop c.in_ok-info.next text) so.read (rw (← so.white) c.in_ok-info.ensures.ok));
    }
