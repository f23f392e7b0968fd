use Rattle.std.proofs.Common.{◌∙◌, ap}
use Rattle.dm_commands.specs.Running.{texts_in}
use Rattle.dm_tool.specs.Posters.{texts_sent}
use Rattle.dm_tool.specs.Held.{listed}
use Rattle.dm_tool.proofs.RunLemmas.{texts_named, status_of_texts, bad_plan_of_texts}
use Rattle.dm_tool.proofs.commands.running.run_texts.Goals as goal

pub returns-clause-status : goal.returns-clause-status
returns-clause-status g c =
    status_of_texts _ _ c.args.mirrors c.run_lists.result (ap texts_in c.deref-2.ensures.value ∙ texts_named c.in_ok-named.named.items ∙ ap texts_sent (c.in_ok-named.ensures ∙ ap listed c.deref.ensures.value ∙ c.in_ok-lists.ensures)) c.run_lists.ensures.status

pub returns-clause-bad_plan : goal.returns-clause-bad_plan
returns-clause-bad_plan g c =
    bad_plan_of_texts _ _ c.args.mirrors c.run_lists.result (ap texts_in c.deref-2.ensures.value ∙ texts_named c.in_ok-named.named.items ∙ ap texts_sent (c.in_ok-named.ensures ∙ ap listed c.deref.ensures.value ∙ c.in_ok-lists.ensures)) c.run_lists.ensures.bad_plan
