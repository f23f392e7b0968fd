use Rattle.std.proofs.Common.{◌≡◌, ◌++◌, List, ℕ, sym, ap, subst, ◌∙◌}
use Rattle.std.proofs.lemmas.List.{take_all}
use Rattle.sha1.specs.Sha1.{Holds}
use Rattle.dm_named.specs.Patches.{Patch}
use Rattle.dm_named.specs.Canonical.{patch_text}
use Rattle.dm_hash.specs.Kept.{kept_front, darcs1_body, darcs2_body, kept_patch, in_turn}
use Rattle.std.proofs.Common.{take}
use Rattle.dm_hash.proofs.KeptLemmas.{front_fits, one_more}
use Rattle.dm_hash.proofs.kept.hashes_in_turn.Goals as goal

pub body_of-body-requires-clause-within : goal.body_of-body-requires-clause-within
body_of-body-requires-clause-within g c =
    let p = c.patch-item.result in
    let front : c.deref.result.now ≡ kept_front p = c.deref.ensures.value ∙ (c.in_ok-push_front.ensures ∙ ap (λ (t : List ℕ). t ++ kept_front p) c.clear.ensures.items) in
    let text : c.deref-in-loop-patch.result.now ≡ patch_text p = c.deref-in-loop-patch.ensures.value ∙ (c.in_ok-push_named.ensures.ok ∙ ap (λ (t : List ℕ). t ++ patch_text p) c.clear-in-loop-patch.ensures.items) in
    rw (front, text) (front_fits p)

pub loop-patch-preserved : goal.loop-patch-preserved
loop-patch-preserved g c =
    let ps = c.args.patches.now in
    let i = c.loop-patch.patch-index in
    let p = c.patch-item.result in
    record {
      darcs1 = subst (Holds c.add_darcs1.new.hasher) (sym (one_more (kept_patch darcs1_body) ps i p c.loop-patch-test.true c.patch-item.is)) (c.add_darcs1.ensures (in_turn darcs1_body (take i ps)) c.loop-patch.invariant.darcs1);
      darcs2 = subst (Holds c.add_darcs2.new.hasher) (sym (one_more (kept_patch darcs2_body) ps i p c.loop-patch-test.true c.patch-item.is)) (c.add_darcs2.ensures (in_turn darcs2_body (take i ps)) c.loop-patch.invariant.darcs2);
    }

pub returns-clause-darcs1 : goal.returns-clause-darcs1
returns-clause-darcs1 g c =
    c.finalize.ensures (in_turn darcs1_body c.args.patches.now) (subst (λ (ps : List Patch). Holds c.loop-patch.darcs1 (in_turn darcs1_body ps)) (take_all c.loop-patch.patch-index c.args.patches.now c.loop-patch-test.false) c.loop-patch.invariant.darcs1)

pub returns-clause-darcs2 : goal.returns-clause-darcs2
returns-clause-darcs2 g c =
    c.finalize-2.ensures (in_turn darcs2_body c.args.patches.now) (subst (λ (ps : List Patch). Holds c.loop-patch.darcs2 (in_turn darcs2_body ps)) (take_all c.loop-patch.patch-index c.args.patches.now c.loop-patch-test.false) c.loop-patch.invariant.darcs2)
