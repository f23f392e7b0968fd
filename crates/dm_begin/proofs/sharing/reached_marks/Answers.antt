use Rattle.std.proofs.Common.{◌≡◌, ◌-◌, ◌<◌, inl, inr, true, false, replicate, sym, ◌∙◌, arith, drop, length, rules}
use Rattle.std.specs.List.{Contains}
use Rattle.std.proofs.lemmas.List.{drop_all, length-map}
use Rattle.dm_bundle.specs.Patches.{infos_of}
use Rattle.dm_repo.specs.CommonSets.{Closed}
use Rattle.dm_repo.proofs.Splits.{whole, mark_at}
use Rattle.dm_repo.proofs.MarksLemmas.{ClosedFrom, marks_alike, marks_also, no_marks, from_last, from_first, close_in, close_out}
use Rattle.dm_begin.proofs.sharing.reached_marks.Goals as goal

pub loop-k-init : goal.loop-k-init
loop-k-init g c =
    let repo = c.args.repo.now.patches in
    let infos = infos_of repo in
    let names = c.args.names.now in
    let new = c.add_marks.new.marks in
    let kept = whole new (drop (length new) c.in_ok-marks.marks.items) c.in_ok-marks.marks.len (search rules) in
    let none = no_marks infos c.len.result (c.len.ensures.value ∙ sym (length-map repo (λ p. p.info))) in
    let adds = rw (c.as_mut_slice.ensures.value, c.in_ok-marks.ensures.items_if_clones_equal (λ y h. h)) at c.add_marks.ensures in
    let marked = marks_also infos (replicate c.len.result false) new names (λ i. ⊥) (Contains names) none adds (λ i. ((λ h. inr h), λ h. elim h [ inl a ↦ absurd a | inr a ↦ a ])) in
    rw kept (marks_alike infos new (Contains names) (ClosedFrom repo names c.len-k.result) marked
    (from_last repo names c.len-k.result (drop_all c.len-k.result repo (omega (arith, c.len-k.ensures.value)))))

pub loop-k-preserved-then-index : goal.loop-k-preserved-then-index
loop-k-preserved-then-index g c =
    let repo = c.args.repo.now.patches in
    let also = rw (c.deps.ensures, c.as_mut_slice-then-index.ensures.value) at c.add_marks-then-index.ensures in
    let new = c.add_marks-then-index.new.marks in
    let kept = whole new (drop (length new) c.loop-k.marks.items) c.loop-k.marks.len (search rules) in
    let n : length (infos_of repo) ≡ length repo = length-map repo (λ p. p.info) in
    let l : c.loop-k.k - 1 < length c.loop-k.marks.items = omega (arith, n, c.loop-k.invariant.length_is, c.loop-k.auto.k, c.len-k.ensures.value, c.loop-k-test.true) in
    rw kept (close_in repo c.args.names.now c.loop-k.marks.items new c.loop-k.k c.patch.result.now c.loop-k-test.true c.len-k.ensures.valid c.patch.ensures c.loop-k.invariant
    (mark_at c.loop-k.marks.items (c.loop-k.k - 1) true c.index.result.now l (sym c.index.ensures ∙ c.if-index.true)) also)

pub loop-k-preserved : goal.loop-k-preserved
loop-k-preserved g c =
    let repo = c.args.repo.now.patches in
    let n : length (infos_of repo) ≡ length repo = length-map repo (λ p. p.info) in
    let l : c.loop-k.k - 1 < length c.loop-k.marks.items = omega (arith, n, c.loop-k.invariant.length_is, c.loop-k.auto.k, c.len-k.ensures.value, c.loop-k-test.true) in
    close_out repo c.args.names.now c.loop-k.marks.items c.loop-k.k c.loop-k-test.true (omega (arith, c.loop-k.auto.k, c.len-k.ensures.value)) c.len-k.ensures.valid c.loop-k.invariant
    (mark_at c.loop-k.marks.items (c.loop-k.k - 1) false c.index.result.now l (sym c.index.ensures ∙ c.if-index.false))

pub returns : goal.returns
returns g c =
    let repo = c.args.repo.now.patches in
    let names = c.args.names.now in
    let z : c.loop-k.k ≡ 0 = omega (arith, c.loop-k-test.false) in
    marks_alike (infos_of repo) c.loop-k.marks.items (ClosedFrom repo names 0) (Closed repo names) (rw z at c.loop-k.invariant) (from_first repo names)
