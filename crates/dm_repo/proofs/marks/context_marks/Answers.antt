use Rattle.std.proofs.Common.{◌∙◌, sym, inl, inr, arith, false, replicate}
use Rattle.std.specs.Prelude.{Contains}
use Rattle.std.proofs.lemmas.List.{length-map, take_all}
use Rattle.dm_bundle.specs.Patches.{infos_of}
use Rattle.dm_repo.proofs.Members.{none_of}
use Rattle.dm_repo.proofs.MarksLemmas.{also_none, also_more, first_lack, held_more, marks_also, no_marks, within}
use Rattle.dm_repo.proofs.marks.context_marks.Goals as goal

pub loop-c-init : goal.loop-c-init
loop-c-init g c = record { marked = also_none (infos_of c.args.repo.now.patches) c.in_ok-marks.marks.items; held = λ i m. absurd (none_of m) }

pub index_mut-requires : goal.index_mut-requires
index_mut-requires g c =
    let infos = infos_of c.args.repo.now.patches in
    let none = no_marks infos c.len.result (c.len.ensures.value ∙ sym (length-map c.args.repo.now.patches (λ p. p.info))) in
    let clean = rw (c.in_ok-marks.ensures.items_if_clones_equal (λ y h. h)) at c.loop-c.invariant.marked.length_is in
    let l = within infos c.in-Some.k (rw c.in-Some.is at c.in_ok-find_beside.ensures) in
    omega (arith, l, none.length_is, clean, c.loop-c.marks.ok.0)

pub returns-in-None : goal.returns-in-None
returns-in-None g c =
    rw c.context-context.ensures at (first_lack c.args.repo.now.patches c.context-context.result.now c.loop-c.c c.index-context-c.result c.loop-c-test.true c.index-context-c.is (rw c.in-None.is at c.in_ok-find_beside.ensures) c.loop-c.invariant.held)

pub loop-c-preserved : goal.loop-c-preserved
loop-c-preserved g c =
    let infos = infos_of c.args.repo.now.patches in
    let context = c.context-context.result.now in
    let clean = c.in_ok-marks.ensures.items_if_clones_equal (λ y h. h) in
    let none = no_marks infos c.len.result (c.len.ensures.value ∙ sym (length-map c.args.repo.now.patches (λ p. p.info))) in
    let found = rw c.in-Some.is at c.in_ok-find_beside.ensures in
    record {
      marked = also_more infos c.in_ok-marks.marks.items c.loop-c.marks.items context c.loop-c.c c.in-Some.k c.index-context-c.result c.len.ensures.valid.distinct
          (rw clean none.length_is) c.loop-c-test.true c.index-context-c.is found c.loop-c.invariant.marked;
      held = held_more c.args.repo.now.patches context c.loop-c.c c.in-Some.k c.index-context-c.result c.loop-c-test.true c.index-context-c.is found c.loop-c.invariant.held;
    }

pub returns : goal.returns
returns g c =
    let infos = infos_of c.args.repo.now.patches in
    let context = c.args.bundle.now.context in
    let all = take_all c.loop-c.c c.context-context.result.now c.loop-c-test.false in
    let none = no_marks infos c.len.result (c.len.ensures.value ∙ sym (length-map c.args.repo.now.patches (λ p. p.info))) in
    let marked = rw (c.in_ok-marks.ensures.items_if_clones_equal (λ y h. h), all, c.context-context.ensures) at c.loop-c.invariant.marked in (
      rw (all, c.context-context.ensures) at c.loop-c.invariant.held,
      marks_also infos (replicate c.len.result false) c.loop-c.marks.items context (λ i. ⊥) (Contains context) none marked (λ i. ((λ h. inr h), λ h. elim h [ inl a ↦ absurd a | inr a ↦ a ])),
    )
