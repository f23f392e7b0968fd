use Rattle.std.proofs.Common.{◌∙◌}
use Rattle.std.proofs.lemmas.List.{take_all}
use Rattle.dm_repo.proofs.Members.{copied_more}
use Rattle.dm_begin.proofs.sharing.copies_of.Goals as goal

pub loop-name-preserved : goal.loop-name-preserved
loop-name-preserved g c =
    copied_more c.args.names.now c.loop-name.name-index c.name-item.result c.loop-name.copies.items c.in_ok-copy_into.field-0 c.loop-name-test.true c.name-item.is c.loop-name.invariant c.in_ok-copy_into.ensures c.in_ok-push.ensures.items

pub returns : goal.returns
returns g c = c.loop-name.invariant ∙ take_all c.loop-name.name-index c.args.names.now c.loop-name-test.false
