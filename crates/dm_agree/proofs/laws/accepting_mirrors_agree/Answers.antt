use Rattle.dm_agree.proofs.Agreeing as proof
use Rattle.dm_agree.proofs.laws.accepting_mirrors_agree.Goals as goal

pub returns : goal.returns
returns c = proof.accepting_mirrors_agree
