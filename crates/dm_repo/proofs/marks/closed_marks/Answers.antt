use Rattle.std.proofs.Common.{◌≡◌, ◌-◌, ◌<◌, true, false, sym, ◌∙◌, arith, drop, length, rules, ap}
use Rattle.std.proofs.lemmas.List.{drop_all, length-map}
use Rattle.std.specs.Prelude.{Contains}
use Rattle.dm_bundle.specs.Patches.{infos_of}
use Rattle.dm_repo.specs.CommonSets.{Closed}
use Rattle.dm_repo.proofs.Splits.{whole, mark_at}
use Rattle.dm_repo.proofs.MarksLemmas.{ClosedFrom, marks_alike, from_last, from_first, close_in, close_out, no_lack}
use Rattle.dm_repo.proofs.marks.closed_marks.Goals as goal

pub loop-k-init : goal.loop-k-init
loop-k-init g c =
    let repo = c.args.repo.now.patches in
    let context = c.args.bundle.now.context in
    marks_alike (infos_of repo) c.in_ok-marks.marks.items (Contains context) (ClosedFrom repo context c.len-k.result) c.in_ok-marks.ensures.1
    (from_last repo context c.len-k.result (drop_all c.len-k.result repo (omega (arith, c.len-k.ensures.value))))

pub loop-k-preserved-in-Ok : goal.loop-k-preserved-in-Ok
loop-k-preserved-in-Ok g c =
    let repo = c.args.repo.now.patches in
    let also = rw (c.deps.ensures, c.as_mut_slice.ensures.value) at c.in-Ok.ensures.0 in
    let kept = whole c.mark.new.marks (drop (length c.mark.new.marks) c.loop-k.marks.items) c.loop-k.marks.len (search rules) in
    let n : length (infos_of c.args.repo.now.patches) ≡ length c.args.repo.now.patches = length-map c.args.repo.now.patches (λ p. p.info) in
    let l : c.loop-k.k - 1 < length c.loop-k.marks.items = omega (arith, n, c.loop-k.invariant.length_is, c.loop-k.auto.k, c.len-k.ensures.value, c.loop-k-test.true) in
    rw kept (close_in repo c.args.bundle.now.context c.loop-k.marks.items c.mark.new.marks c.loop-k.k c.patch.result.now c.loop-k-test.true c.len-k.ensures.valid c.patch.ensures c.loop-k.invariant
    (mark_at c.loop-k.marks.items (c.loop-k.k - 1) true c.index.result.now l (sym c.index.ensures ∙ c.if-index.true)) also)

pub unreachable-requires : goal.unreachable-requires
unreachable-requires g c = no_lack c.args.repo.now.patches (c.loop-k.k - 1) c.in-Err.field-0 c.patch.result.now c.len-k.ensures.valid c.patch.ensures (rw c.deps.ensures at c.in-Err.ensures)

pub loop-k-preserved : goal.loop-k-preserved
loop-k-preserved g c =
    let n : length (infos_of c.args.repo.now.patches) ≡ length c.args.repo.now.patches = length-map c.args.repo.now.patches (λ p. p.info) in
    let l : c.loop-k.k - 1 < length c.loop-k.marks.items = omega (arith, n, c.loop-k.invariant.length_is, c.loop-k.auto.k, c.len-k.ensures.value, c.loop-k-test.true) in
    close_out c.args.repo.now.patches c.args.bundle.now.context c.loop-k.marks.items c.loop-k.k c.loop-k-test.true (omega (arith, c.loop-k.auto.k, c.len-k.ensures.value)) c.len-k.ensures.valid c.loop-k.invariant
    (mark_at c.loop-k.marks.items (c.loop-k.k - 1) false c.index.result.now l (sym c.index.ensures ∙ c.if-index.false))

pub returns : goal.returns
returns g c =
    let repo = c.args.repo.now.patches in
    let context = c.args.bundle.now.context in
    let z : c.loop-k.k ≡ 0 = omega (arith, c.loop-k-test.false) in
    (c.in_ok-marks.ensures.0, marks_alike (infos_of repo) c.loop-k.marks.items (ClosedFrom repo context 0) (Closed repo context) (rw z at c.loop-k.invariant) (from_first repo context))

pub index-requires : goal.index-requires
index-requires g c =
    let n : length (infos_of c.args.repo.now.patches) ≡ length c.args.repo.now.patches = length-map c.args.repo.now.patches (λ p. p.info) in
    omega (arith, n, c.loop-k.invariant.length_is, c.loop-k.auto.k, c.len-k.ensures.value, c.loop-k-test.true, c.loop-k.marks.ok.0)

pub patch-requires : goal.patch-requires
patch-requires g c = omega (arith, c.loop-k.auto.k, c.len-k.ensures.value, c.loop-k-test.true)

pub mark-requires-clause-marks : goal.mark-requires-clause-marks
mark-requires-clause-marks g c =
    let n : length (infos_of c.args.repo.now.patches) ≡ length c.args.repo.now.patches = length-map c.args.repo.now.patches (λ p. p.info) in
    omega (arith, n, c.loop-k.invariant.length_is, ap length c.as_mut_slice.ensures.value)

pub mark-requires-clause-distinct : goal.mark-requires-clause-distinct
mark-requires-clause-distinct g c = c.len-k.ensures.valid.distinct
