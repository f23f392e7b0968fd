use Rattle.dm_scratch.proofs.ReadLemmas.{reads, no_err}
use Rattle.dm_agree.proofs.Bringing.{just_one}
use Rattle.dm_agree.proofs.names.brought.Goals as goal

pub returns-in-Ok : goal.returns-in-Ok
returns-in-Ok g c =
    just_one c.args.limits c.args.text.now c.in-Ok.bundle (reads c.args.limits c.args.text.now c.in-Ok.bundle c.in-Ok.ensures.ok c.in-Ok.ensures.few (λ large. no_err c.in-Ok.bundle _ (c.in-Ok.ensures.too_large large))) c.in-Ok.ensures.only
