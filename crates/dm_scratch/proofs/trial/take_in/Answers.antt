use Rattle.std.proofs.Common.{subst}
use Rattle.dm_named.specs.declared.limits.Limits.{Limits}
use Rattle.dm_scratch.specs.Taking.{TakesWithin}
use Rattle.dm_scratch.proofs.trial.take_in.Goals as goal

pub returns : goal.returns
returns g c =
    subst (λ (l : Limits). TakesWithin l c.args.repo.now.patches c.args.text.now c.args.policy c.take_in_arena.result c.take_in_arena.new.repo.patches) c.with_kinds.ensures c.take_in_arena.ensures
