use Rattle.std.proofs.Common.{rules, ◌≡◌, [], true, false, refl, sym, ap, ◌∙◌}
use Rattle.std.proofs.lemmas.List.{take_all}
use borrow.Author.Rules.{scaled_Fits}
use Rattle.dm_repo.specs.Merging.{bare}
use Rattle.dm_repo.specs.Squares.{Placed, PlacedMerges, undone}
use Rattle.dm_repo.proofs.AskedRows.{set_same, ask_merge, ask_merge_stop}
use Rattle.dm_repo.proofs.sifting.would_merge_all.Goals as goal

pub loop-k-init : goal.loop-k-init
loop-k-init g c = record { same = refl; joined = ([], bare) }

pub returns-then-not-branch-clause-row : goal.returns-then-not-branch-clause-row
returns-then-not-branch-clause-row g c =
    let no : c.in_ok-would_merge.field-0 ≡ false = c.if-not-branch.true in
    let x = c.index-rest-k.result in
    (undone x, ap (λ (p : Placed). p.0) (c.would_merge.ensures.same ∙ sym c.index-rest-k.is), ask_merge_stop undone PlacedMerges c.args.rest.now c.loop-k.rest c.loop-k.k x c.loop-k-test.true c.loop-k.invariant.same c.index-rest-k.is c.loop-k.invariant.joined.1 (rw no at c.in_ok-would_merge.ensures.square))

pub loop-k-preserved : goal.loop-k-preserved
loop-k-preserved g c =
    let yes : c.in_ok-would_merge.field-0 ≡ true = c.if-not-branch.false in
    let x = c.index-rest-k.result in
    let s = rw yes at c.in_ok-would_merge.ensures.square in
    let before = c.loop-k.invariant in
    record {
      same = set_same c.args.rest.now c.loop-k.rest c.loop-k.k c.would_merge.new.next x before.same c.would_merge.ensures.same;
      joined = (_, ask_merge undone PlacedMerges c.args.rest.now c.loop-k.rest c.loop-k.k x c.loop-k-test.true before.same c.index-rest-k.is before.joined.1 s.1);
    }

pub offset_bounds-rest-k : goal.offset_bounds-rest-k
offset_bounds-rest-k g c = scaled_Fits _ _ _ c.loop-k-test.true (search rules)

pub returns-in_err-would_merge-clause-same : goal.returns-in_err-would_merge-clause-same
returns-in_err-would_merge-clause-same g c = set_same c.args.rest.now c.loop-k.rest c.loop-k.k c.would_merge.new.next c.index-rest-k.result c.loop-k.invariant.same c.would_merge.ensures.same

pub returns : goal.returns
returns g c = record { same = c.loop-k.invariant.same; row = rw (take_all c.loop-k.k c.args.rest.now c.loop-k-test.false) at c.loop-k.invariant.joined }
