use Rattle.std.proofs.Common.{◌≡◌, ◌++◌, ◌∙◌, ap, sym, refl, length, drop}
use Rattle.std.proofs.lemmas.List.{take_rest}
use Rattle.dm_tree.proofs.Paths.{forward-other}
use Rattle.dm_tree.proofs.Fronts.{refuted, under_at, not_longer, too_long, in_place, moved_valid, not_deeper, rest_not_deeper}
use Rattle.dm_tree.proofs.Plain.{if_ok_err, sum_fits}
use Rattle.dm_tree.proofs.path.Path.forward.Goals as goal

pub returns-then-not-begins-clause-value : goal.returns-then-not-begins-clause-value
returns-then-not-begins-clause-value g c = c.in_ok-copy_into.ensures ∙ sym (forward-other c.args.from.now c.args.to.now c.args.self.now
    (refuted (under_at _ _ _ _ c.names-names.ensures.value c.names-front.ensures.value c.if-not-begins.ensures)))

pub offset_bounds-names-front : goal.offset_bounds-names-front
offset_bounds-names-front g c = not_longer c.names-names.result.now c.names-front.result.now (c.if-not-begins.ensures.0 refl)

pub slice_bounds-rest-count : goal.slice_bounds-rest-count
slice_bounds-rest-count g c = not_longer c.names-names.result.now c.names-front.result.now (c.if-not-begins.ensures.0 refl)

pub returns-then-base-rest-gt-MOST_NAMES-clause-value : goal.returns-then-base-rest-gt-MOST_NAMES-clause-value
returns-then-base-rest-gt-MOST_NAMES-clause-value g c = too_long c.names-names.result.now c.names-front.result.now c.names-base.result.now c.args.self.now c.args.from.now c.args.to.now (length c.names-front.result.now)
    c.names-names.ensures.value c.names-front.ensures.value c.names-base.ensures.value refl (c.if-not-begins.ensures.0 refl)
    c.names-names.result.now (length c.names-base.result.now) refl refl c.if-base-rest-gt-MOST_NAMES.true

pub invariant_of-result : goal.invariant_of-result
invariant_of-result g c =
    let n = length c.names-front.result.now in
    let short = c.if-base-rest-gt-MOST_NAMES.false in
    let pushed : c.push_all.new.copies.items ≡ c.names-base.result.now = rw c.in_ok-moved.ensures.items at c.in_ok-push_all.ensures in
    moved_valid c.names-names.result.now c.names-front.result.now c.names-base.result.now c.args.self.now c.args.from.now c.args.to.now n
    c.names-names.ensures.value c.names-front.ensures.value c.names-base.ensures.value refl (c.if-not-begins.ensures.0 refl)
    c.push_all-2.new.copies.items c.push_all.new.copies.items (drop n c.names-names.result.now) (c.in_ok-push_all-2.ensures ∙ ap (λ z. c.push_all.new.copies.items ++ z) (take_rest c.names-names.result.now n)) pushed refl
    c.names-names.ensures.valid c.names-base.ensures.valid (rw (take_rest c.names-names.result.now n) at short)

pub returns-clause-value : goal.returns-clause-value
returns-clause-value g c =
    in_place c.names-names.result.now c.names-front.result.now c.names-base.result.now c.args.self.now c.args.from.now c.args.to.now (length c.names-front.result.now)
    c.names-names.ensures.value c.names-front.ensures.value c.names-base.ensures.value refl (c.if-not-begins.ensures.0 refl)
    c.names-names.result.now c.push_all-2.new.copies.items c.push_all.new.copies.items _ refl c.in_ok-push_all-2.ensures (rw c.in_ok-moved.ensures.items at c.in_ok-push_all.ensures) refl

pub returns-in_err-copy_into-clause-value : goal.returns-in_err-copy_into-clause-value
returns-in_err-copy_into-clause-value g c = if_ok_err c.from_residual.result _ c.from_residual.ensures.0

pub returns-in_err-moved-clause-value : goal.returns-in_err-moved-clause-value
returns-in_err-moved-clause-value g c = if_ok_err c.from_residual-in_err-moved.result _ c.from_residual-in_err-moved.ensures.0

pub returns-in_err-push_all-clause-value : goal.returns-in_err-push_all-clause-value
returns-in_err-push_all-clause-value g c = if_ok_err c.from_residual-in_err-push_all.result _ c.from_residual-in_err-push_all.ensures.0

pub returns-in_err-push_all-2-clause-value : goal.returns-in_err-push_all-2-clause-value
returns-in_err-push_all-2-clause-value g c = if_ok_err c.from_residual-in_err-push_all-2.result _ c.from_residual-in_err-push_all-2.ensures.0

pub returns-in_err-copy_into-clause-valid : goal.returns-in_err-copy_into-clause-valid
returns-in_err-copy_into-clause-valid g c = (c.names-names.ensures.valid, c.names-front.ensures.valid, c.names-base.ensures.valid)

pub returns-then-not-begins-clause-valid : goal.returns-then-not-begins-clause-valid
returns-then-not-begins-clause-valid g c = (c.names-names.ensures.valid, c.names-front.ensures.valid, c.names-base.ensures.valid)

pub returns-then-base-rest-gt-MOST_NAMES-clause-valid : goal.returns-then-base-rest-gt-MOST_NAMES-clause-valid
returns-then-base-rest-gt-MOST_NAMES-clause-valid g c = (c.names-names.ensures.valid, c.names-front.ensures.valid, c.names-base.ensures.valid)

pub returns-in_err-moved-clause-valid : goal.returns-in_err-moved-clause-valid
returns-in_err-moved-clause-valid g c = (c.names-names.ensures.valid, c.names-front.ensures.valid, c.names-base.ensures.valid)

pub returns-in_err-push_all-clause-valid : goal.returns-in_err-push_all-clause-valid
returns-in_err-push_all-clause-valid g c = (c.names-names.ensures.valid, c.names-front.ensures.valid, c.names-base.ensures.valid)

pub returns-in_err-push_all-2-clause-valid : goal.returns-in_err-push_all-2-clause-valid
returns-in_err-push_all-2-clause-valid g c = (c.names-names.ensures.valid, c.names-front.ensures.valid, c.names-base.ensures.valid)

pub returns-clause-valid : goal.returns-clause-valid
returns-clause-valid g c = (c.names-names.ensures.valid, c.names-front.ensures.valid, c.names-base.ensures.valid)

pub overflow_add-base : goal.overflow_add-base
overflow_add-base g c = sum_fits _ _ (not_deeper c.names-base.result.now c.args.to.now c.names-base.ensures.value c.names-base.ensures.not_deep) (rest_not_deeper c.names-names.result.now c.args.self.now (length c.names-front.result.now) c.names-names.ensures.value c.names-names.ensures.not_deep)

pub overflow_add-base-2 : goal.overflow_add-base-2
overflow_add-base-2 g c = sum_fits _ _ (not_deeper c.names-base.result.now c.args.to.now c.names-base.ensures.value c.names-base.ensures.not_deep) (rest_not_deeper c.names-names.result.now c.args.self.now (length c.names-front.result.now) c.names-names.ensures.value c.names-names.ensures.not_deep)
