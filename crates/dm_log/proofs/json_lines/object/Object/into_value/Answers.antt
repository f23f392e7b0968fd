use Rattle.serde_json.proofs.Views.{view-Object}
use Rattle.dm_log.proofs.json_lines.object.Object.into_value.Goals as goal

pub returns : goal.returns
returns c = view-Object c.args.self.members
