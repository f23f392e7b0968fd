use Rattle.dm_agree.proofs.Bringing.{adds_one}
use Rattle.dm_agree.proofs.names.add_brought.Goals as goal

pub returns-in_ok-push-in-Some : goal.returns-in_ok-push-in-Some
returns-in_ok-push-in-Some g c =
    rw c.in_ok-push-in-Some.ensures.items (adds_one c.args.limits c.args.text.now c.args.bundles.now.items c.in-Some.bundle (rw c.in-Some.is at c.in_ok-bundle.ensures))
