use Rattle.dm_chain.proofs.Made.{replaced_step}
use Rattle.dm_chain.proofs.laws.replaced_lines_have_a_step.Goals as goal

pub returns : goal.returns
returns g c = replaced_step _
