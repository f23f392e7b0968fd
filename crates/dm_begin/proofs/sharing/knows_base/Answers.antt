use Rattle.std.proofs.Common.{refl}
use Rattle.dm_begin.proofs.SharedLemmas.{knows, knows_none}
use Rattle.dm_begin.proofs.sharing.knows_base.Goals as goal

pub returns-then-base-eq0 : goal.returns-then-base-eq0
returns-then-base-eq0 g c = (λ t. knows_none c.args.repo.now.patches c.args.names.now c.args.base c.if-base-eq0.true, λ h. refl)

pub returns : goal.returns
returns g c =
    let all = rw c.deref.ensures.value at c.are_first_set.ensures in
    let k = knows c.args.repo.now.patches c.args.names.now c.args.base c.in_ok-marks.marks.items c.in_ok-marks.ensures in
    (λ t. k.0 (all.0 t), λ h. all.1 (k.1 h))
