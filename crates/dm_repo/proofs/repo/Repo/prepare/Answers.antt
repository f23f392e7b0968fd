use Rattle.std.proofs.Common.{◌∙◌}
use Rattle.dm_repo.proofs.PutLemmas.{keeps_tree, put_is_lawful}
use Rattle.dm_repo.proofs.repo.Repo.prepare.Goals as goal

pub tree_after-requires-clause-lawful : goal.tree_after-requires-clause-lawful
tree_after-requires-clause-lawful g c =
    let k = rw (← c.make_room.ensures.same, ← c.self.view_is) at c.requires.weighed in
    put_is_lawful c.self.inside.patches.items c.args.merged.now.patches.items c.args.merged.now.paths.items c.self.inside.tree c.args.merged.now.part k.makes c.self.invariant.0.makes

pub returns-clause-tree : goal.returns-clause-tree
returns-clause-tree g c =
    let m = c.args.merged.now in
    let k = rw (← c.make_room.ensures.same, ← c.self.view_is) at c.requires.weighed in
    rw (← c.self.view_is, c.in_ok-patches.ensures, c.deref.ensures.value)
    (keeps_tree c.self.inside.patches.items m.patches.items m.paths.items c.self.inside.tree m.part c.in_ok-tree.tree k c.self.invariant.0.makes c.in_ok-tree.ensures)

pub returns-clause-room : goal.returns-clause-room
returns-clause-room g c =
    let count = c.len.ensures ∙ c.args.merged.now.patches.ok.0 in
    rw (c.in_ok-patches.ensures, c.deref.ensures.value, ← count) c.in_ok-make_room.ensures.room
