use Rattle.std.proofs.Common.{◌∙◌}
use Rattle.dm_log.proofs.JsonLemmas.{ok_is_utf8}
use Rattle.dm_log.proofs.json_lines.object.is_utf8.Goals as goal

pub returns : goal.returns
returns c = c.is_ok.ensures.value ∙ ok_is_utf8 _ _ c.args.text.now c.from_utf8.result c.from_utf8.ensures.cases
