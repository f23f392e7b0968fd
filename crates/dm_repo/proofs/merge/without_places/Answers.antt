use Rattle.std.proofs.Common.{◌∙◌, ap, sym, [], ◌∷◌, ◌++◌, ap₂, append_assoc}
use Rattle.std.proofs.lemmas.Result.{err_from_is_err_and}
use Rattle.std.proofs.lemmas.List.{map_push}
use Rattle.dm_repo.specs.Squares.{patches, Placed}
use Rattle.dm_repo.proofs.Splits.{all_taken}
use Rattle.dm_repo.proofs.merge.without_places.Goals as goal

pub returns : goal.returns
returns g c = c.loop-patch.invariant.moved ∙ ap patches (sym (all_taken c.args.placed.items c.loop-patch.yielded c.loop-patch.patch-iterator.rest.items c.loop-patch.invariant.whole (sym (c.loop-patch.patch-iterator.rest.ok.0) ∙ c.in-None.ensures.steps.0)))

pub loop-patch-preserved : goal.loop-patch-preserved
loop-patch-preserved g c =
    let x : Placed = (c.in-Some.field-0-0, c.in-Some.patch) in
    let yielded = c.loop-patch.yielded in
    let left = c.next.new.self.rest.items in
    let m = map_push (λ (p : Placed). p.1) yielded x in
    record {
      can_next = tt;
      is_finite = tt;
      moved = c.in_ok-push.ensures.items ∙ ap₂ (λ a b. a ++ b ∷ []) c.loop-patch.invariant.moved c.into_named.ensures ∙ sym m;
      whole = c.loop-patch.invariant.whole ∙ ap (λ z. yielded ++ z) c.in-Some.ensures.steps.0 ∙ sym (append_assoc yielded (x ∷ []) left);
    }

pub returns-in_err-list : goal.returns-in_err-list
returns-in_err-list g c = let p = err_from_is_err_and c.from_residual.result c.from_residual.ensures.1 in rw p.1 tt
