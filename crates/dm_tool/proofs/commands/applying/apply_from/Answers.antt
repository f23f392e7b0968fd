use Rattle.dm_files.proofs.MirrorLemmas.{if_ok}
use Rattle.dm_tool.proofs.commands.applying.apply_from.Goals as goal

pub returns-in-Ok : goal.returns-in-Ok
returns-in-Ok g c = λ not more. (c.base_of.result, c.base_of.ensures, c.in-Ok.ensures more)

pub returns-in-Err : goal.returns-in-Err
returns-in-Err g c = if_ok c.refuse_bad_base.result (λ status two not more. absurd (not two)) c.refuse_bad_base.ensures
