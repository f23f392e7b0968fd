use Rattle.std.proofs.Common.{◌∙◌}
use Rattle.dm_named.proofs.passing.Passing.find_touched.Goals.{in-Some-1, in-None-1}
use Rattle.dm_named.proofs.passing.Passing.find_touched.Goals as goal

pub returns-in_ok-touch : goal.returns-in_ok-touch
returns-in_ok-touch g c = elim c.match-self.branch [ in-Some-1 w ↦ w.self-is ∙ c.self.view_is | in-None-1 w ↦ w.self-is ∙ c.self.view_is ]
