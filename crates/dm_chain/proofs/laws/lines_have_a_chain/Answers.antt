use Rattle.dm_chain.proofs.Made.{lines_have_a_chain}
use Rattle.dm_chain.proofs.laws.lines_have_a_chain.Goals as goal

pub returns : goal.returns
returns g c = lines_have_a_chain _
