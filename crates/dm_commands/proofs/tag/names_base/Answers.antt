use Rattle.dm_commands.proofs.InBaseLemmas.{first_named, named_first}
use Rattle.dm_commands.proofs.tag.names_base.Goals as goal

pub returns : goal.returns
returns c = (
  λ t. named_first c.args.repo.now.patches c.args.names.now c.args.base (c.has_first.ensures.0 t),
  λ n. c.has_first.ensures.1 (first_named c.args.repo.now.patches c.args.names.now c.args.base n),
)
