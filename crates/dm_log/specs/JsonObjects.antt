-- What a JSON object has that is built.
use Rattle.serde_json.specs.Data.{Members}
use Rattle.serde_json.specs.View.{members_view}
use Rattle.dm_log.specs.declared.json_lines.object.Object.{Object}

-- its members
abbrev pub members_in : Object → Members
members_in o = members_view o.members.entries
