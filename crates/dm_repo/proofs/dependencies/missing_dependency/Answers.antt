use Rattle.std.proofs.Common.{◌≡◌, ◌<◌, true, false, sym, ◌∙◌, subst, length, get_or, arith, ap}
use Rattle.std.specs.Prelude.{Contains}
use Rattle.std.proofs.lemmas.List.{take_all, length-map}
use Rattle.std.proofs.lemmas.Bool.{false≢true}
use Rattle.dm_info.specs.PatchInfo.{PatchInfo}
use Rattle.dm_named.specs.Patches.{Patch}
use Rattle.dm_bundle.specs.Patches.{infos_of}
use Rattle.dm_repo.specs.CommonSets.{IsKnown}
use Rattle.dm_repo.proofs.Members.{none_of}
use Rattle.dm_repo.proofs.Splits.{mark_at}
use Rattle.dm_repo.proofs.MarksLemmas.{all_more, at_place}
use Rattle.dm_repo.proofs.DependencyLemmas.{marked_held, unmarked_new, same_patch, first_unknown}
use Rattle.dm_repo.proofs.dependencies.missing_dependency.Goals as goal

pub returns-then-index : goal.returns-then-index
returns-then-index g c = λ x d e n k.
    let new = c.args.bundle.now.patches in
    let held = c.args.marks.now.held.items in
    let w : length (infos_of new) ≡ length new = length-map new (λ p. p.info) in
    let l : c.args.n < length held = omega (arith, w, c.requires.marks.held_is.length_is, c.requires.place) in
    absurd (n (marked_held c.args.repo.now.patches new held c.args.n x c.requires.marks.held_is e (mark_at held c.args.n true c.index.result.now l (sym c.index.ensures ∙ c.if-index.true))))

pub loop-d-init : goal.loop-d-init
loop-d-init g c = λ i h. absurd (none_of h)

pub loop-d-preserved : goal.loop-d-preserved
loop-d-preserved g c =
    all_more c.deps-dependencies.result.now c.loop-d.d c.index-dependencies-d.result (IsKnown c.args.repo.now.patches c.args.bundle.now c.args.n) c.loop-d-test.true c.index-dependencies-d.is (c.in_ok-is_known.ensures.0 c.if-not-branch.false) c.loop-d.invariant

pub returns-then-not-branch : goal.returns-then-not-branch
returns-then-not-branch g c =
    let repo = c.args.repo.now.patches in
    let b = c.args.bundle.now in
    let x = c.index-new_patches-n.result in
    let held = c.args.marks.now.held.items in
    let e : x ≡ get_or b.patches c.args.n x = rw c.new_patches.ensures.value at c.index-new_patches-n.is in
    let w : length (infos_of b.patches) ≡ length b.patches = length-map b.patches (λ p. p.info) in
    let l : c.args.n < length held = omega (arith, w, c.requires.marks.held_is.length_is, c.requires.place) in
    let new = unmarked_new repo b.patches held c.args.n x c.requires.marks.held_is (at_place b.patches c.args.n x c.requires.place e) (mark_at held c.args.n false c.index.result.now l (sym c.index.ensures ∙ c.if-index.false)) in
    first_unknown repo b c.args.n c.loop-d.d x c.index-dependencies-d.result c.requires.place e new
    (rw c.deps-dependencies.ensures at c.loop-d-test.true) (rw c.deps-dependencies.ensures at c.index-dependencies-d.is) (λ k. false≢true (sym c.if-not-branch.true ∙ c.in_ok-is_known.ensures.1 k))
    (rw c.deps-dependencies.ensures at c.loop-d.invariant)

pub returns : goal.returns
returns g c = λ x d f n k.
    let b = c.args.bundle.now in
    let y = c.index-new_patches-n.result in
    let e : y ≡ get_or b.patches c.args.n y = rw c.new_patches.ensures.value at c.index-new_patches-n.is in
    let s = same_patch b.patches c.args.n y x c.requires.place e f in
    let all : (i : PatchInfo) → Contains y.deps i → IsKnown c.args.repo.now.patches b c.args.n i = rw (take_all c.loop-d.d c.deps-dependencies.result.now c.loop-d-test.false, c.deps-dependencies.ensures) at c.loop-d.invariant in
    all d (subst (λ (p : Patch). Contains p.deps d) (sym s) k)

pub index-requires : goal.index-requires
index-requires g c =
    let new = c.args.bundle.now.patches in
    let w : length (infos_of new) ≡ length new = length-map new (λ p. p.info) in
    omega (arith, w, c.requires.marks.held_is.length_is, c.requires.place, c.args.marks.now.held.ok.0)

pub offset_bounds-new_patches-n : goal.offset_bounds-new_patches-n
offset_bounds-new_patches-n g c = omega (arith, c.requires.place, ap length c.new_patches.ensures.value)

pub bounds-new_patches-n : goal.bounds-new_patches-n
bounds-new_patches-n g c = omega (arith, c.requires.place, ap length c.new_patches.ensures.value)

pub is_known-requires : goal.is_known-requires
is_known-requires g c = record { marks = c.requires.marks; valid = c.requires.valid; names = c.requires.names; distinct = c.requires.distinct }
