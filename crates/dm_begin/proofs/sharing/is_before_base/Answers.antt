use Rattle.std.proofs.Common.{◌≡◌, ◌↔◌, Bool, true, false, IsTrue, List, drop, length, take, ap, rules, sym, subst, ◌∙◌}
use Rattle.std.specs.List.{All}
use Rattle.dm_info.specs.PatchInfo.{PatchInfo}
use Rattle.dm_bundle.specs.Patches.{infos_of}
use Rattle.dm_repo.specs.CommonSets.{Closed, HoldsAll}
use Rattle.dm_repo.specs.MarkLists.{AddsMarks, AreMarksOf}
use Rattle.dm_repo.proofs.Splits.{whole}
use Rattle.dm_begin.proofs.SharedLemmas.{before, before_none, common_marks, not_all}
use Rattle.dm_begin.proofs.sharing.is_before_base.Goals as goal

pub returns-then-base-eq0 : goal.returns-then-base-eq0
returns-then-base-eq0 g c = (
  λ t. absurd (cc),
  λ h. absurd (before_none c.args.repo.now.patches c.args.bundle.now c.args.base c.if-base-eq0.true h),
)

pub returns-then-not-are_held : goal.returns-then-not-are_held
returns-then-not-are_held g c =
    let e : c.deref.result.now ≡ c.args.bundle.now.context = c.deref.ensures.value ∙ c.in_ok-context.ensures ∙ c.context.ensures in (
      λ t. absurd (cc),
      λ h. sym c.if-not-are_held.true ∙ c.are_held.ensures.1 (subst (λ (l : List PatchInfo). HoldsAll c.args.repo.now.patches l) (sym e) h.knows),
    )

pub returns-then-nothing_new : goal.returns-then-nothing_new
returns-then-nothing_new g c =
    let e : c.deref-2.result.now ≡ infos_of c.args.bundle.now.patches = c.deref-2.ensures.value ∙ c.in_ok-new.ensures ∙ ap infos_of c.new_patches.ensures.value in (
      λ t. absurd (cc),
      λ h. absurd (h.is_new (subst (λ (l : List PatchInfo). HoldsAll c.args.repo.now.patches l) e (c.are_held-nothing_new.ensures.0 c.if-nothing_new.true))),
    )

pub returns : goal.returns
returns g c =
    let repo = c.args.repo.now.patches in
    let b = c.args.bundle.now in
    let infos = infos_of repo in
    let new = c.add_marks.new.marks in
    let context : c.in_ok-context.context.items ≡ b.context = c.in_ok-context.ensures ∙ c.context.ensures in
    let names : c.in_ok-new.new.items ≡ infos_of b.patches = c.in_ok-new.ensures ∙ ap infos_of c.new_patches.ensures.value in
    let known = subst (λ (l : List PatchInfo). HoldsAll repo l) (c.deref.ensures.value ∙ context) (c.are_held.ensures.0 c.if-not-are_held.false) in
    let closed = subst (λ (l : List PatchInfo). AreMarksOf c.in_ok-marks.marks.items infos (Closed repo l)) (c.deref-3.ensures.value ∙ context) c.in_ok-marks.ensures in
    let adds = subst (λ (l : List PatchInfo). AddsMarks c.in_ok-marks.marks.items new infos l) (c.deref-4.ensures.value ∙ names) (rw c.as_mut_slice.ensures.value at c.add_marks.ensures) in
    let kept = whole new (drop (length new) c.in_ok-marks.marks.items) c.in_ok-marks.marks.len (search rules) in
    let all = subst (λ (l : List Bool). IsTrue c.are_first_set.result ↔ All (λ (m : Bool). m ≡ true) (take c.args.base l)) (c.deref-5.ensures.value ∙ kept) c.are_first_set.ensures in
    let lacks = not_all c.are_first_set.result all in
    let is = before repo b c.args.base new (common_marks repo b c.in_ok-marks.marks.items new closed adds) known
    (λ h. let f : false ≡ true = sym c.if-nothing_new.false ∙ c.are_held-nothing_new.ensures.1 (subst (λ (l : List PatchInfo). HoldsAll repo l) (sym (c.deref-2.ensures.value ∙ names)) h) in absurd (cc)) in
    (λ t. is.0 (lacks.0 t), λ h. lacks.1 (is.1 h))
