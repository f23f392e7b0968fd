use Rattle.std.proofs.Common.{◌∙◌, sym, append-nil}
use Rattle.dm_tree.proofs.Copies.{pushed_more, pushed_all}
use Rattle.dm_tree.proofs.bytes.push_all.Goals as goal

pub loop-text-init : goal.loop-text-init
loop-text-init g c = sym (append-nil c.args.copies.now.items)

pub loop-text-preserved : goal.loop-text-preserved
loop-text-preserved g c =
    pushed_more c.args.copies.now.items c.args.texts.now c.loop-text.copies.items c.push.new.self.items c.loop-text.text-index c.text-item.result c.in_ok-from_slice.field-0 c.loop-text-test.true
    (c.in_ok-from_slice.ensures ∙ c.as_slice.ensures ∙ c.text-item.is) c.in_ok-push.ensures.items c.loop-text.invariant

pub returns : goal.returns
returns g c = pushed_all c.args.copies.now.items c.args.texts.now c.loop-text.copies.items c.loop-text.text-index c.loop-text-test.false c.loop-text.invariant
