use Rattle.std.proofs.Common.{drop, length, ◌≡◌, ◌<◌, ◌++◌, ◌∷◌, [], arith}
use Rattle.std.proofs.lemmas.List.{length-append}
use Rattle.std.proofs.lemmas.Result.{err_from_is_err_and}
use Rattle.std.specs.Prelude.{Contains}
use Rattle.dm_bundle.specs.Patches.{infos_of, SameMembers}
use Rattle.dm_bundle.specs.Room.{LeavesRoom}
use Rattle.dm_bundle.proofs.Members.{infos_more}
use Rattle.dm_bundle.proofs.ReplaceLemmas.{room_few}
use Rattle.dm_bundle.proofs.PatchesLemmas.{new_more, few_more, new_wrong, replaces_due}
use Rattle.dm_bundle.proofs.patches.patches_at.Goals as goal

pub patch_at-requires-clause-known : goal.patch_at-requires-clause-known
patch_at-requires-clause-known g c = rw c.deref.ensures.value c.loop-alloc.invariant.known

pub loop-alloc-smaller : goal.loop-alloc-smaller
loop-alloc-smaller g c =
    let pushed : c.push.new.self.items ≡ c.loop-alloc.patches.items ++ c.in_ok-patch.patch ∷ [] = c.in_default-push.ensures.items in
    let room : length c.loop-alloc.patches.items < c.args.limits.patches = rw (← c.deref.ensures.value) c.in_ok-patch.ensures.room in
    rw pushed (omega (arith, room, length-append c.loop-alloc.patches.items (c.in_ok-patch.patch ∷ [])))

pub loop-alloc-preserved : goal.loop-alloc-preserved
loop-alloc-preserved g c =
    let text = c.args.text.now in
    let ps = c.loop-alloc.patches.items in
    let p = c.in_ok-patch.patch in
    let l = c.loop-alloc.invariant in
    let pushed : c.push.new.self.items ≡ ps ++ p ∷ [] = c.in_default-push.ensures.items in
    let is_new : Contains (infos_of ps) p.info → ⊥ = rw (← c.deref.ensures.value) c.in_ok-patch.ensures.is_new in
    let noted : SameMembers c.patch_at.new.known (infos_of ps ++ p.info ∷ []) = rw (← c.deref.ensures.value) c.in_ok-patch.ensures.noted in
    let room : length ps < c.args.limits.patches = rw (← c.deref.ensures.value) c.in_ok-patch.ensures.room in
    let left : LeavesRoom c.args.limits (ps ++ p ∷ []) c.in-Some.left = c.in-Some.ensures ps l.room in
    record {
      end = c.in_ok-patch.ensures.within;
      here = c.skip-here-in-loop-alloc.ensures.within;
      place = c.skip-here-in-loop-alloc.ensures.rest;
      read = rw pushed (new_more c.args.limits.kinds (drop c.args.start text) ps (drop c.loop-alloc.end text) (drop c.loop-alloc.here text) p (drop c.in_ok-patch.next text) l.read l.place c.in_ok-patch.ensures.ok is_new);
      known = rw (pushed, infos_more ps p) noted;
      few = rw pushed (few_more c.args.limits ps p l.few room c.in_ok-patch.ensures.few (room_few c.args.limits (ps ++ p ∷ []) c.in-Some.left left));
      room = rw pushed left;
    }

pub returns-in_default-clause-err : goal.returns-in_default-clause-err
returns-in_default-clause-err g c =
    let text = c.args.text.now in
    let ps = c.loop-alloc.patches.items in
    let p = c.in_ok-patch.patch in
    let l = c.loop-alloc.invariant in
    let here = drop c.loop-alloc.here text in
    let is_new : Contains (infos_of ps) p.info → ⊥ = rw (← c.deref.ensures.value) c.in_ok-patch.ensures.is_new in
    let room : length ps < c.args.limits.patches = rw (← c.deref.ensures.value) c.in_ok-patch.ensures.room in
    let next = drop c.in_ok-patch.next text in
    new_wrong c.args.limits _ (drop c.args.start text) (drop c.loop-alloc.end text) here next ps l.read l.few l.place
    (replaces_due c.args.limits ps here p next c.in_ok-patch.ensures.ok room c.in_ok-patch.ensures.few is_new (c.in_default.ensures ps l.room))

pub returns-in_err-patch-clause-err : goal.returns-in_err-patch-clause-err
returns-in_err-patch-clause-err g c =
    let text = c.args.text.now in
    let p = err_from_is_err_and c.from_residual.result c.from_residual.ensures.1 in
    let l = c.loop-alloc.invariant in
    rw (p.1, p.2) (new_wrong c.args.limits c.in_err-patch.field-0.0.kind (drop c.args.start text) (drop c.loop-alloc.end text) (drop c.loop-alloc.here text) (drop c.in_err-patch.field-0.0.at text) c.loop-alloc.patches.items l.read l.few l.place (rw (← c.deref.ensures.value) c.in_err-patch.ensures.err))
