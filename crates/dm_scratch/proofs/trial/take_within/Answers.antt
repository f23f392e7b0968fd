use Rattle.std.proofs.Common.{refl}
use Rattle.dm_scratch.specs.Taking.{bundle}
use Rattle.dm_scratch.proofs.ReadLemmas.{no_err, reads, unread_takes}
use Rattle.dm_scratch.proofs.trial.take_within.Goals as goal

pub returns-in-Err : goal.returns-in-Err
returns-in-Err g c = unread_takes c.args.limits c.args.repo.now.patches c.args.text.now c.in-Err.fault c.args.policy c.unread.result c.args.repo.now.patches c.in-Err.ensures.err c.unread.ensures refl

pub returns : goal.returns
returns g c =
    let b = c.in-Ok.bundle in
    bundle b (reads c.args.limits c.args.text.now b c.in-Ok.ensures.ok c.in-Ok.ensures.few (λ large. no_err b _ (c.in-Ok.ensures.too_large large))) c.take_read.ensures
