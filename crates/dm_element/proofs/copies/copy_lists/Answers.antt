use Rattle.std.proofs.Common.{ap, ◌∙◌}
use Rattle.dm_prim.specs.Prims.{prims_of}
use Rattle.dm_element.proofs.CopyLemmas.{copied_more}
use Rattle.dm_element.proofs.copies.copy_lists.Goals as goal

pub loop-list-preserved : goal.loop-list-preserved
loop-list-preserved g c = copied_more (λ v. prims_of v.items) (λ v. prims_of v.items) c.args.lists.now c.loop-list.copy.items c.push.new.self.items c.loop-list.list-index c.list-item.result c.in_ok-copy_prims.field-0 c.loop-list-test.true c.list-item.is
    (c.in_ok-copy_prims.ensures ∙ ap (λ z. prims_of z) c.as_slice.ensures.value) c.in_ok-push.ensures.items c.loop-list.invariant
