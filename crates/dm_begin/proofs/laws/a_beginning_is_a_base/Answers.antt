use Rattle.dm_begin.proofs.FormLemmas.{beginning_is_base}
use Rattle.dm_begin.proofs.laws.a_beginning_is_a_base.Goals as goal

pub returns : goal.returns
returns c = beginning_is_base
