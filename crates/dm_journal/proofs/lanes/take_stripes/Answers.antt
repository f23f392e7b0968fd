use Rattle.std.proofs.Common.{rules, ◌∙◌, slice_index, ap, arith}
use Rattle.dm_journal.specs.Lanes.{taken, lane_after}
use Rattle.dm_journal.proofs.Stripes.{lane_step}
use Rattle.dm_journal.proofs.lanes.take_stripes.Goals as goal

pub stripes-init : goal.stripes-init
unfolding lane_after
stripes-init c = record { first = search rules; second = search rules; third = search rules; fourth = search rules }

pub stripes-preserved : goal.stripes-preserved
stripes-preserved c =
    let begin = c.args.lanes in
    let text = c.args.text.now in
    let n = c.stripes.i in record {
      first = c.take-a.ensures ∙ ap (taken c.stripes.a) c.word_at.ensures ∙ lane_step (slice_index begin 0) text 0 n c.stripes.a _ c.stripes.invariant.first (omega arith);
      second = c.take-b.ensures ∙ ap (taken c.stripes.b) c.word_at-in-stripes.ensures ∙ lane_step (slice_index begin 1) text 1 n c.stripes.b _ c.stripes.invariant.second (omega arith);
      third = c.take-c.ensures ∙ ap (taken c.stripes.c) c.word_at-in-stripes-2.ensures ∙ lane_step (slice_index begin 2) text 2 n c.stripes.c _ c.stripes.invariant.third (omega arith);
      fourth = c.take-d.ensures ∙ ap (taken c.stripes.d) c.word_at-in-stripes-3.ensures ∙ lane_step (slice_index begin 3) text 3 n c.stripes.d _ c.stripes.invariant.fourth (omega arith);
    }
