use Rattle.std.proofs.Common.{◌∙◌, ap, subst, List, ℕ, length}
use Rattle.dm_tree.proofs.Places.{Opened, written_back, replaced}
use Rattle.dm_tree.proofs.ends.replace_ends.Goals as goal

pub returns : goal.returns
returns g c =
    let xs = c.args.ends.now.items in
    let all = c.open.new.values.items in
    let shifted = rw c.deref_mut.ensures.value at c.shift.ensures in
    let opened = subst (λ (z : List ℕ). Opened z c.args.start c.args.end (length c.args.fresh.now) all) (written_back c.shift.new.ends xs c.args.ends.now.len (c.shift.auto.ends ∙ ap length c.deref_mut.ensures.value) c.args.ends.now.ok.0) c.open.ensures in
    let filled = rw c.deref_mut-2.ensures.value at c.fill.ensures in
    written_back c.fill.new.ends all c.open.new.values.len (c.fill.auto.ends ∙ ap length c.deref_mut-2.ensures.value) c.open.new.values.ok.0
    ∙ replaced xs c.shift.new.ends all c.fill.new.ends _ _ c.args.start c.args.end (length c.args.fresh.now) c.requires.order c.requires.within shifted opened filled
