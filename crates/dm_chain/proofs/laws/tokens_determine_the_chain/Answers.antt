use Rattle.dm_chain.proofs.Determined.{tokens_determine}
use Rattle.dm_chain.proofs.laws.tokens_determine_the_chain.Goals as goal

pub returns : goal.returns
returns g c = tokens_determine _
