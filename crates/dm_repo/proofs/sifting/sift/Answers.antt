use Rattle.std.proofs.Common.{rules, map, sym, ap, ◌∙◌, drop, length}
use Rattle.dm_repo.specs.Squares.{Placed, undone}
use Rattle.dm_repo.proofs.SiftLemmas.{push_some}
use Rattle.dm_repo.proofs.SkipLemmas.{completes_merged, completes_skipped, none_left}
use Rattle.dm_repo.proofs.Splits.{whole}
use Rattle.dm_repo.proofs.sifting.sift.Goals as goal

pub loop-patch-preserved-in-Continue-branch-3 : goal.loop-patch-preserved-in-Continue-branch-3
loop-patch-preserved-in-Continue-branch-3 g c =
    let w = rw c.in-Some.ensures.steps.0 at c.loop-patch.invariant.completes in
    let kept = whole c.merge_over.new.skipped (drop (length c.merge_over.new.skipped) c.loop-patch.skipped.items) c.loop-patch.skipped.len (search rules) in
    let kept_rest = whole c.merge_over.new.rest (drop (length c.merge_over.new.rest) c.loop-patch.rest.items) c.loop-patch.rest.len (search rules) in
    record {
      can_next = search rules;
      is_finite = tt;
      completes = rw (kept, kept_rest) (completes_merged (map undone c.args.rest.items) c.args.new.items c.loop-patch.merged.items c.loop-patch.skips.items w
          (rw (c.as_mut_slice.ensures.value, c.as_mut_slice-in-loop-patch.ensures.value) at (rw c.in-None-2.is at c.in_ok-merge_over.ensures)) c.in_ok-push-in-None-2.ensures.items);
      same_rest = λ e. absurd (push_some c.loop-patch.merged.items c.merge_over.new.patch (sym c.in_ok-push-in-None-2.ensures.items ∙ e));
    }

pub loop-patch-preserved : goal.loop-patch-preserved
loop-patch-preserved g c =
    let w = rw c.in-Some.ensures.steps.0 at c.loop-patch.invariant.completes in
    let kept = whole c.merge_over.new.skipped (drop (length c.merge_over.new.skipped) c.loop-patch.skipped.items) c.loop-patch.skipped.len (search rules) in
    let kept_rest = whole c.merge_over.new.rest (drop (length c.merge_over.new.rest) c.loop-patch.rest.items) c.loop-patch.rest.len (search rules) in
    let n = rw c.in-Some-2.is at c.in_ok-merge_over.ensures in
    let same = kept ∙ n.0 ∙ c.as_mut_slice.ensures.value in
    let same_rest = kept_rest ∙ n.1 ∙ c.as_mut_slice-in-loop-patch.ensures.value in
    record {
      can_next = search rules;
      is_finite = tt;
      completes = completes_skipped (map undone c.args.rest.items) c.args.new.items c.loop-patch.merged.items c.loop-patch.skips.items (record { place = c.merge_over.new.patch.0; by = c.in-Some-2.by }) w (ap (λ (p : Placed). p.0) n.2)
          (rw (c.as_mut_slice.ensures.value, c.as_mut_slice-in-loop-patch.ensures.value) at n.3) same (ap (map undone) same_rest) (rw n.2 at c.in_ok-push-in-Some-2-2.ensures.items) c.in_ok-push-in-Some-2.ensures.items;
      same_rest = λ e. same_rest ∙ c.loop-patch.invariant.same_rest e;
    }

pub returns-clause-sifts : goal.returns-clause-sifts
returns-clause-sifts g c = none_left (map undone c.args.rest.items) c.args.new.items c.loop-patch.skipped.items (map undone c.loop-patch.rest.items) c.loop-patch.patch-iterator.rest.items c.loop-patch.merged.items c.loop-patch.skips.items c.loop-patch.invariant.completes (sym (c.loop-patch.patch-iterator.rest.ok.0) ∙ c.in-None.ensures.steps.0)
