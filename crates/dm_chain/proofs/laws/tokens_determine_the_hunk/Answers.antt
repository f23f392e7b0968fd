use Rattle.dm_chain.proofs.Once.{tokens_determine_the_hunk}
use Rattle.dm_chain.proofs.laws.tokens_determine_the_hunk.Goals as goal

pub returns : goal.returns
returns g c = tokens_determine_the_hunk _
