use Rattle.std.proofs.Common.{◌≡◌, [], ◌∷◌, ◌++◌, ap, ap₂, sym, ◌∙◌, append-nil, append_assoc, map}
use Rattle.std.proofs.lemmas.Grind.{flat_map-append}
use Rattle.std.proofs.lemmas.List.{map-append}
use Rattle.dm_named.specs.Patches.{Patch}
use Rattle.dm_prim.specs.Primitives.{inv_all}
use Rattle.dm_prim.specs.Prims.{prim_of}
use Rattle.dm_repo.proofs.Splits.{all_taken}
use Rattle.dm_send.specs.Undoing.{prims_in}
use Rattle.dm_send.proofs.undoing.inverses.Goals as goal

pub loop-patch-preserved : goal.loop-patch-preserved
loop-patch-preserved g c =
    let x : Patch = c.in-Some.patch in
    let yielded = c.loop-patch.yielded in
    let left = c.next.new.self.rest.items in
    let one : prims_in (x ∷ []) ≡ x.prims = append-nil x.prims in
    let more = c.replace_prims-more.ensures.taken ∙ ap (λ (p : Patch). p.prims) c.into_named-named.ensures ∙ sym one in
    record {
      can_next = tt;
      is_finite = tt;
      moved = ap (map prim_of) c.in_ok-append.ensures.items ∙ map-append prim_of _ _ ∙ ap₂ (λ a b. a ++ b) c.loop-patch.invariant.moved more ∙ sym (flat_map-append (λ (p : Patch). p.prims) yielded (x ∷ []));
      whole = c.loop-patch.invariant.whole ∙ ap (λ z. yielded ++ z) c.in-Some.ensures.steps.0 ∙ sym (append_assoc yielded (x ∷ []) left);
    }

pub returns : goal.returns
returns g c =
    let whole = all_taken c.args.list.items c.loop-patch.yielded c.loop-patch.patch-iterator.rest.items c.loop-patch.invariant.whole (sym (c.loop-patch.patch-iterator.rest.ok.0) ∙ c.in-None.ensures.steps.0) in
    c.invert_all.ensures ∙ ap inv_all (c.loop-patch.invariant.moved ∙ ap prims_in (sym whole))
