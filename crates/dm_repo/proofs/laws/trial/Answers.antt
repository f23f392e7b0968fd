use Rattle.dm_repo.proofs.PutLemmas.{makes_tree}
use Rattle.dm_repo.proofs.TrialLemmas.{part_follows, stops_alike, past_alike, whole_follows}
use Rattle.dm_repo.proofs.UndoLemmas.{undoing}
use Rattle.dm_repo.proofs.laws.trial.Goals as goal

pub returns : goal.returns
returns c = record { part = part_follows; whole = whole_follows; stops = stops_alike; past = past_alike; put = makes_tree; undone = undoing }
