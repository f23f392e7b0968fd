use Rattle.std.proofs.Common.{map}
use Rattle.dm_agree.proofs.Bringing.{by_bundles}
use Rattle.dm_agree.proofs.names.names_stand_for_one.Goals as goal

pub returns : goal.returns
returns g c =
    by_bundles c.args.limits (map (λ t. t.now) c.args.texts.now) c.in_ok-bundles.bundles.items c.args.base.now.patches c.shared_name.result c.in_ok-bundles.ensures (rw c.deref.ensures.value at c.shared_name.ensures)
