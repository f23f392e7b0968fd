use Rattle.dm_c.specs.Explaining.{explained}
use Rattle.dm_c.proofs.Giving.{given}
use Rattle.dm_c.proofs.explain.dm_repo_explain.Goals as goal

pub returns-clause-text : goal.returns-clause-text
returns-clause-text c =
    explained _ c.in-Some-take_out.ensures.old (given c.explanation-said.result _ _ _ _ _ _ _ c.explanation-said.ensures.ok c.explanation-said.ensures.err c.give_text.ensures)
