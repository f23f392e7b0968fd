use Rattle.dm_bundle.proofs.KnownLemmas.{noted, not_known}
use Rattle.dm_begin.proofs.TwiceLemmas.{all_noted, noted_first, noted_more, twice_here}
use Rattle.dm_begin.proofs.names.first_twice.Goals as goal

pub loop-i-init : goal.loop-i-init
loop-i-init g c = noted_first c.args.names.now c.new-set.result.keys c.new-set.ensures.empty

pub returns-then-not-is_new : goal.returns-then-not-is_new
returns-then-not-is_new g c =
    let is_in = rw c.if-not-is_new.true at (not_known c.loop-i.set c.in_ok-copy_into.field-0 c.in_ok-is_new.is_new c.in_ok-is_new.ensures.added) in
    twice_here c.args.names.now c.loop-i.i c.index-names-i.result c.in_ok-copy_into.field-0 c.loop-i-test.true c.index-names-i.is c.in_ok-copy_into.ensures c.loop-i.set.keys c.loop-i.invariant is_in

pub loop-i-preserved : goal.loop-i-preserved
loop-i-preserved g c =
    let out = rw c.if-not-is_new.false at (not_known c.loop-i.set c.in_ok-copy_into.field-0 c.in_ok-is_new.is_new c.in_ok-is_new.ensures.added) in
    noted_more c.args.names.now c.loop-i.i c.index-names-i.result c.in_ok-copy_into.field-0 c.loop-i-test.true c.index-names-i.is c.in_ok-copy_into.ensures c.loop-i.set.keys c.loop-i.invariant c.insert.new.self.keys out
    (noted c.loop-i.set c.insert.new.self c.in_ok-copy_into.field-0 c.in_ok-is_new.ensures.updates.0)

pub returns : goal.returns
returns g c = all_noted c.args.names.now c.loop-i.i c.loop-i.set.keys c.loop-i-test.false c.loop-i.invariant
