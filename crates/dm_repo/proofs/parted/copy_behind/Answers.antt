use Rattle.std.proofs.Common.{◌∙◌, ◌++◌, refl, sym, ap, append-nil}
use Rattle.dm_repo.specs.Nearby.{behind}
use Rattle.dm_repo.proofs.AsideMarks.{behind_more, none_behind}
use Rattle.dm_repo.proofs.parted.copy_behind.Goals as goal

pub loop-k-init : goal.loop-k-init
loop-k-init g c = rw c.new-copies.ensures.items refl

pub loop-k-preserved : goal.loop-k-preserved
loop-k-preserved g c =
    let xs = c.args.patches.now in
    behind_more xs c.loop-k.k c.index-patches-k.result c.loop-k-test.true c.index-patches-k.is c.loop-k.copies.items (behind c.args.kept xs) c.in_ok-patch.patch c.loop-k.invariant c.in_ok-patch.ensures c.in_ok-push.ensures.items

pub returns : goal.returns
returns g c =
    let copies = c.loop-k.copies.items in
    sym (append-nil copies) ∙ ap (λ z. copies ++ z) (sym (none_behind c.args.patches.now c.loop-k.k c.loop-k-test.false)) ∙ c.loop-k.invariant
