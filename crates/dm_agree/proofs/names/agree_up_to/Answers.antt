use Rattle.std.proofs.Common.{refl}
use Rattle.dm_agree.proofs.Agreed.{by_context}
use Rattle.dm_agree.proofs.names.agree_up_to.Goals as goal

pub returns : goal.returns
returns g c =
    by_context c.args.one.now c.args.other.now c.args.count c.have_same_members.result (rw (c.new_patches-first.ensures.value, c.new_patches-second.ensures.value) at (c.if-not-same_patches.ensures.0 refl))
    (rw (c.context.ensures, c.context-2.ensures) at c.have_same_members.ensures)
