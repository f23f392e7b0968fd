use Rattle.dm_facts.proofs.LawProofs as proof
use Rattle.dm_facts.proofs.laws.facts_determine_the_tree.Goals as goal

pub returns : goal.returns
returns g c = proof.facts_determine_the_tree _
