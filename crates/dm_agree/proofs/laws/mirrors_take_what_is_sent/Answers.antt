use Rattle.dm_agree.proofs.Agreeing as proof
use Rattle.dm_agree.proofs.laws.mirrors_take_what_is_sent.Goals as goal

pub returns : goal.returns
returns c = proof.mirrors_take_what_is_sent
