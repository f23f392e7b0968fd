use Rattle.dm_facts.proofs.HeapLemmas.{put_on_spells}
use Rattle.dm_facts.proofs.laws.heaps_spell_in_turn.Goals as goal

pub returns : goal.returns
returns c = λ w h x heap good. put_on_spells w h heap good x
