use Rattle.dm_tool.proofs.PlanLemmas.{with_mirror, without_mirror}
use Rattle.dm_tool.proofs.commands.answer.Goals as goal

pub returns-in-Obliterate : goal.returns-in-Obliterate
returns-in-Obliterate g c = rw c.in-Obliterate.is c.obliterate_chosen.ensures

pub returns-in-Init : goal.returns-in-Init
returns-in-Init g c = rw c.in-Init.is c.init.ensures

pub returns-in-Run : goal.returns-in-Run
returns-in-Run g c = rw (c.in-Run.is, c.without_file-in-Run.ensures.answer) c.run_plan.ensures

pub returns-in-Some : goal.returns-in-Some
returns-in-Some g c = rw c.in-Apply.is (with_mirror (g.F.Files.had c.args.files.now) c.in-Apply.asked c.apply_to_mirror.result c.in-Some.path c.in-Some.is c.apply_to_mirror.ensures)

pub returns-in-None : goal.returns-in-None
returns-in-None g c = rw c.in-Apply.is (without_mirror (g.F.Files.had c.args.files.now) c.in-Apply.asked c.without_file.result c.in-None.is (rw c.without_file.ensures.answer c.apply.ensures))
