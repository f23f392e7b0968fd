use Rattle.std.proofs.Common.{rules, ap, ◌∙◌, sym, refl, [], ◌∷◌, ◌++◌, append_assoc}
use Rattle.dm_prim.specs.Prims.{prims_of}
use Rattle.dm_named.specs.ConflictorElements.{shadow_of}
use Rattle.dm_named.proofs.ConflictLemmas.{one_more, all_read, not_all}
use Rattle.dm_named.proofs.conflictor.from_shadows.Goals as goal

pub loop-shadow-init : goal.loop-shadow-init
loop-shadow-init g c = record { can_next = tt; is_finite = tt; whole = search rules; read = rw c.new-originals.ensures.items refl }

pub returns-in_default : goal.returns-in_default
returns-in_default g c =
    let yielded = c.loop-shadow.yielded in
    not_all c.args.shadows.items yielded c.next.new.self.rest.items c.in-Some.shadow (c.loop-shadow.invariant.whole ∙ ap (λ z. yielded ++ z) c.in-Some.ensures.steps.0) (rw c.in_default.is at c.from_shadow.ensures)

pub loop-shadow-preserved : goal.loop-shadow-preserved
loop-shadow-preserved g c =
    let yielded = c.loop-shadow.yielded in
    let left = c.next.new.self.rest.items in
    record {
      can_next = tt;
      is_finite = tt;
      whole = c.loop-shadow.invariant.whole ∙ ap (λ z. yielded ++ z) c.in-Some.ensures.steps.0 ∙ sym (append_assoc yielded (c.in-Some.shadow ∷ []) left);
      read = one_more shadow_of (λ v. prims_of v.items) c.loop-shadow.originals.items c.push.new.self.items c.in-Some-from_shadow.original yielded c.in-Some.shadow c.in_ok-push.ensures.items (rw c.in-Some-from_shadow.is at c.from_shadow.ensures) c.loop-shadow.invariant.read;
    }

pub returns : goal.returns
returns g c =
    let left = c.loop-shadow.shadow-iterator.rest in
    all_read shadow_of (λ v. prims_of v.items) c.loop-shadow.originals.items c.args.shadows.items c.loop-shadow.yielded left.items c.loop-shadow.invariant.whole (sym left.ok.0 ∙ c.in-None.ensures.steps.0) c.loop-shadow.invariant.read
