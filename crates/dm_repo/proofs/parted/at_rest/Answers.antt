use Rattle.std.proofs.Common.{◌∙◌, sym, [], ◌∷◌, ◌++◌, ap, ap₂, append_assoc}
use Rattle.std.proofs.lemmas.Result.{err_from_is_err_and}
use Rattle.dm_named.specs.Patches.{Patch}
use Rattle.dm_repo.specs.Squares.{Placed}
use Rattle.dm_repo.proofs.Splits.{all_taken}
use Rattle.dm_repo.proofs.parted.at_rest.Goals as goal

pub returns : goal.returns
returns g c = c.loop-place.invariant.moved ∙ sym (all_taken c.args.list.items c.loop-place.yielded c.loop-place.place-iterator.rest.items c.loop-place.invariant.whole (sym (c.loop-place.place-iterator.rest.ok.0) ∙ c.in-None.ensures.steps.0))

pub loop-place-preserved : goal.loop-place-preserved
loop-place-preserved g c =
    let x : Placed = (c.in-Some.place, c.in-Some.patch) in
    let yielded = c.loop-place.yielded in
    let left = c.next.new.self.rest.items in
    record {
      can_next = tt;
      is_finite = tt;
      moved = c.in_ok-push.ensures.items ∙ ap₂ (λ a (p : Patch). a ++ (c.in-Some.place, p) ∷ []) c.loop-place.invariant.moved c.into_named.ensures;
      whole = c.loop-place.invariant.whole ∙ ap (λ z. yielded ++ z) c.in-Some.ensures.steps.0 ∙ sym (append_assoc yielded (x ∷ []) left);
    }

pub returns-in_err-patches : goal.returns-in_err-patches
returns-in_err-patches g c = let p = err_from_is_err_and c.from_residual.result c.from_residual.ensures.1 in rw p.1 tt
