use Rattle.std.proofs.Common.{refl}
use Rattle.dm_scratch.specs.Taking.{bundle}
use Rattle.dm_scratch.proofs.ReadLemmas.{no_err, reads, unread_takes}
use Rattle.dm_scratch.proofs.trial.take_in_arena.Goals as goal

pub returns-in-Err-read_bundle_within : goal.returns-in-Err-read_bundle_within
returns-in-Err-read_bundle_within g c = unread_takes c.args.limits c.args.repo.now.patches c.args.text.now c.in-Err-read_bundle_within.fault c.args.policy c.unread.result c.args.repo.now.patches c.in-Err-read_bundle_within.ensures.err c.unread.ensures refl

pub returns-in-Ok-take_bundle : goal.returns-in-Ok-take_bundle
returns-in-Ok-take_bundle g c =
    let b = c.in-Ok.bundle in
    bundle b (reads c.args.limits c.args.text.now b c.in-Ok.ensures.ok c.in-Ok.ensures.few (λ large. no_err b _ (c.in-Ok.ensures.too_large large))) c.in-Ok-take_bundle.ensures.ok

pub returns-in-Err-take_bundle : goal.returns-in-Err-take_bundle
returns-in-Err-take_bundle g c =
    let b = c.in-Ok.bundle in
    bundle b (reads c.args.limits c.args.text.now b c.in-Ok.ensures.ok c.in-Ok.ensures.few (λ large. no_err b _ (c.in-Ok.ensures.too_large large))) c.in-Err-take_bundle.ensures.err
