use Rattle.std.proofs.Common.{sym, ap, ◌∙◌, length, arith}
use Rattle.std.proofs.lemmas.List.{length-map}
use Rattle.std.proofs.lemmas.Result.{err_from_is_err_and}
use Rattle.dm_repo.specs.declared.policy.Policy.{Policy}
use Rattle.dm_repo.specs.declared.policy.Policy.TheVariants.{Refuse}
use Rattle.dm_repo.proofs.RefusalLemmas.{split_before}
use Rattle.dm_repo.proofs.Steps.{split_to_weigh}
use Rattle.dm_repo.proofs.overflow.find_front.Goals as goal

pub returns-in_err-new : goal.returns-in_err-new
returns-in_err-new g c = let p = err_from_is_err_and c.from_residual-in_err-new.result c.from_residual-in_err-new.ensures.1 in rw (p.1, p.2) (tt, λ policy. tt)

pub split_held-requires : goal.split_held-requires
split_held-requires g c =
    let found = rw c.in-Some.is at c.in_ok-marks.ensures in
    found.marked.held_is.length_is ∙ length-map c.args.bundle.now.patches (λ x. x.info) ∙ ap length (sym (c.in_ok-new.ensures ∙ c.new_patches.ensures.value))

pub returns-in_err-split_held : goal.returns-in_err-split_held
returns-in_err-split_held g c =
    let repo = c.args.repo.now.patches in
    let b = c.args.bundle.now in
    let found = rw c.in-Some.is at c.in_ok-marks.ensures in
    let front = c.in_ok-parted.parted.front.items in
    let rest = c.in_ok-parted.parted.rest.items in
    let split = c.in_ok-parted.ensures b found.marked in
    let p = err_from_is_err_and c.from_residual-in_err-split_held.result c.from_residual-in_err-split_held.ensures.1 in
    let refuses = λ (policy : Policy). c.in_err-split_held.ensures repo b policy front rest (sym (c.in_ok-new.ensures ∙ c.new_patches.ensures.value)) found (record { prerequisites = found.prerequisites; split = split }) in
    rw (p.1, p.2) ((refuses Refuse).0, λ policy. (refuses policy).1)

pub returns : goal.returns
returns g c =
    let repo = c.args.repo.now.patches in
    let b = c.args.bundle.now in
    let found = rw c.in-Some.is at c.in_ok-marks.ensures in
    let front = c.in_ok-parted.parted.front.items in
    let rest = c.in_ok-parted.parted.rest.items in
    let split = c.in_ok-parted.ensures b found.marked in
    (rest, c.in_ok-split_held.field-0.items, c.in_ok-split_held.ensures repo b Refuse front rest (sym (c.in_ok-new.ensures ∙ c.new_patches.ensures.value)) found (record { prerequisites = found.prerequisites; split = split }))

pub returns-in_err-parted : goal.returns-in_err-parted
returns-in_err-parted g c =
    let repo = c.args.repo.now.patches in
    let b = c.args.bundle.now in
    let found = rw c.in-Some.is at c.in_ok-marks.ensures in
    let stops = c.in_err-parted.ensures b found.marked in
    let p = err_from_is_err_and c.from_residual-in_err-parted.result c.from_residual-in_err-parted.ensures.1 in
    rw (p.1, p.2) (split_before repo b _ stops, λ policy. split_to_weigh repo b policy _ found.prerequisites stops)

pub split_repo-requires : goal.split_repo-requires
split_repo-requires g c =
    let found = rw c.in-Some.is at c.in_ok-marks.ensures in
    record {
      marks = found.marked.common_is.length_is ∙ length-map c.args.repo.now.patches (λ x. x.info);
      within = omega arith;
      marked = λ k l. absurd (omega (arith, l));
    }

pub copy_patches-requires : goal.copy_patches-requires
copy_patches-requires g c κs = λ h. h

pub returns-in_err-marks : goal.returns-in_err-marks
returns-in_err-marks g c = let p = err_from_is_err_and c.from_residual.result c.from_residual.ensures.1 in rw (p.1, p.2) c.in_err-marks.ensures

pub returns-in_default : goal.returns-in_default
returns-in_default g c = rw c.in_default.is at c.in_ok-marks.ensures
