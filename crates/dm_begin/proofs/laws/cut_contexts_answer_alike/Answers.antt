use Rattle.dm_begin.proofs.BoundLemmas.{bound_answer_alike, cut_answers_alike}
use Rattle.dm_begin.proofs.BroughtLemmas.{base_is_brought}
use Rattle.dm_begin.proofs.laws.cut_contexts_answer_alike.Goals as goal

pub returns : goal.returns
returns c = record { bound = bound_answer_alike; brought = base_is_brought; cut = cut_answers_alike }
