use Rattle.std.proofs.Common.{◌<◌, length, arith}
use Rattle.dm_agree.proofs.Alike.{none_owned}
use Rattle.dm_agree.proofs.Searching.{owner_within, last_within, agrees_at, differs_at}
use Rattle.dm_agree.proofs.names.clash_of.Goals as goal

pub returns-in-None : goal.returns-in-None
returns-in-None g c = none_owned c.args.earlier.now c.args.owners.now c.args.bundle.now c.requires.owns (rw c.new_patches.ensures.value at c.in-None.ensures)

pub bounds-earlier-place : goal.bounds-earlier-place
bounds-earlier-place g c = owner_within c.args.owners.now c.args.earlier.now c.new_patches.result.now c.in-Some.count c.in-Some.place c.requires.owns c.in-Some.ensures

pub offset_bounds-earlier-place : goal.offset_bounds-earlier-place
offset_bounds-earlier-place g c =
    let l : c.in-Some.place < length c.args.earlier.now = owner_within c.args.owners.now c.args.earlier.now c.new_patches.result.now c.in-Some.count c.in-Some.place c.requires.owns c.in-Some.ensures in
    omega (arith, l)

pub agree_up_to-requires : goal.agree_up_to-requires
agree_up_to-requires g c = last_within c.args.owners.now c.args.bundle.now.patches c.in-Some.count c.in-Some.place (rw c.new_patches.ensures.value at c.in-Some.ensures)

pub returns-then-agree : goal.returns-then-agree
returns-then-agree g c =
    agrees_at c.args.earlier.now c.args.owners.now c.args.bundle.now c.index-earlier-place.result c.new_patches.result.now c.in-Some.count c.in-Some.place c.requires.owns c.requires.alike c.new_patches.ensures.value
    c.in-Some.ensures c.index-earlier-place.is (rw c.if-agree.true at c.in_ok-agree-in-Some.ensures)

pub returns-else-agree : goal.returns-else-agree
returns-else-agree g c =
    differs_at c.args.earlier.now c.args.owners.now c.args.bundle.now c.index-earlier-place.result c.new_patches.result.now c.in-Some.count c.in-Some.place c.requires.owns c.new_patches.ensures.value
    c.in-Some.ensures c.new_patches.ensures.no_doubles.distinct c.index-earlier-place.is (rw c.if-agree.false at c.in_ok-agree-in-Some.ensures)
