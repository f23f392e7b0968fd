use Rattle.std.proofs.Common.{arith}
use Rattle.dm_mirror.specs.Jobs.{DoesTake}
use Rattle.dm_mirror.proofs.ListLemmas.{none_left, leads_more, leads_end, room_more}
use Rattle.dm_mirror.proofs.threads.join_mirrors.Goals as goal

pub loop-thread-preserved : goal.loop-thread-preserved
loop-thread-preserved g c =
    let inv = c.loop-thread.invariant in
    record {
      done = leads_more (λ thread one. DoesTake thread.promise.0.value one) _ c.loop-thread.threads.items _ c.in-Some.thread c.loop-thread.kept.items _ _ c.in-Some.ensures.items c.push_back_reserved.ensures.items c.in_ok-inlet.ensures inv.done;
      fits = room_more c.loop-thread.threads.items _ _ c.loop-thread.kept.items _ _ _ _ c.in-Some.ensures.items c.push_back_reserved.ensures.items c.push_back_reserved.ensures.capacity inv.fits;
    }

pub returns : goal.returns
returns g c = leads_end _ _ c.loop-thread.threads.items _ (none_left c.loop-thread.threads.items (omega (arith, c.in_default.ensures.cases))) c.loop-thread.invariant.done
