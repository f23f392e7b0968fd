use Rattle.std.proofs.Common.{rules, ap, ◌∙◌, sym, refl, [], ◌∷◌, ◌++◌, append_assoc}
use Rattle.dm_prim.specs.Prims.{prims_of}
use Rattle.dm_named.specs.ConflictorElements.{shadow_of}
use Rattle.dm_named.proofs.ConflictLemmas.{one_more, all_read}
use Rattle.dm_named.proofs.conflictor.into_shadows.Goals as goal

pub loop-original-init : goal.loop-original-init
loop-original-init g c = record { can_next = tt; is_finite = tt; whole = search rules; read = rw c.new-shadows.ensures.items refl }

pub loop-original-preserved : goal.loop-original-preserved
loop-original-preserved g c =
    let yielded = c.loop-original.yielded in
    let left = c.next.new.self.rest.items in
    record {
      can_next = tt;
      is_finite = tt;
      whole = c.loop-original.invariant.whole ∙ ap (λ z. yielded ++ z) c.in-Some.ensures.steps.0 ∙ sym (append_assoc yielded (c.in-Some.original ∷ []) left);
      read = one_more (λ v. prims_of v.items) shadow_of c.loop-original.shadows.items c.push.new.self.items c.in_ok-into_shadow.field-0 yielded c.in-Some.original c.in_ok-push.ensures.items c.in_ok-into_shadow.ensures c.loop-original.invariant.read;
    }

pub returns : goal.returns
returns g c =
    let left = c.loop-original.original-iterator.rest in
    all_read (λ v. prims_of v.items) shadow_of c.loop-original.shadows.items c.args.originals.items c.loop-original.yielded left.items c.loop-original.invariant.whole (sym left.ok.0 ∙ c.in-None.ensures.steps.0) c.loop-original.invariant.read
