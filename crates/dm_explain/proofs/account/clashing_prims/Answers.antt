use Rattle.std.proofs.Common.{refl}
use Rattle.std.proofs.lemmas.Option.{slice_get_within}
use Rattle.dm_explain.proofs.AccountLemmas.{same_patch}
use Rattle.dm_explain.proofs.PlaceLemmas.{clash_there}
use Rattle.dm_explain.proofs.account.clashing_prims.Goals as goal

pub unreachable-requires : goal.unreachable-requires
unreachable-requires c =
    let there = clash_there c.args.repo.now.patches c.args.bundle.now c.args.clash c.requires in
    let none = rw c.in_default.is at c.new_patch.ensures in
    let some = there.0.1 in
    absurd (cc)

pub patch-held-requires : goal.patch-held-requires
patch-held-requires c =
    let there = clash_there c.args.repo.now.patches c.args.bundle.now c.args.clash c.requires in
    slice_get_within c.args.repo.now.patches c.args.clash.held there.1.0 there.1.1

pub prim_at-requires : goal.prim_at-requires
prim_at-requires c =
    let there = clash_there c.args.repo.now.patches c.args.bundle.now c.args.clash c.requires in
    same_patch c.args.bundle.now.patches c.args.clash.place there.0.1 (rw c.in-Some.is at c.new_patch.ensures) there.0.2

pub prim_at-requires-2 : goal.prim_at-requires-2
prim_at-requires-2 c =
    let there = clash_there c.args.repo.now.patches c.args.bundle.now c.args.clash c.requires in
    same_patch c.args.repo.now.patches c.args.clash.held there.1.1 c.patch-held.ensures there.1.2

pub returns : goal.returns
returns c = record {
  clash = c.args.clash;
  is_clash = c.requires;
  is_new = refl;
  is_held = refl;
  new = c.in-Some.new.now;
  new_patch_at = rw c.in-Some.is at c.new_patch.ensures;
  new_prim_at = c.prim_at.ensures;
  held = c.patch-held.result.now;
  held_patch_at = c.patch-held.ensures;
  held_prim_at = c.prim_at-2.ensures;
}
