use Rattle.dm_c.proofs.Giving.{given}
use Rattle.dm_c.proofs.check.dm_verdict_line.Goals as goal

pub returns : goal.returns
returns c = given c.line_of_numbers.result _ _ _ _ _ _ _ c.line_of_numbers.ensures.ok c.line_of_numbers.ensures.err c.give_text.ensures
