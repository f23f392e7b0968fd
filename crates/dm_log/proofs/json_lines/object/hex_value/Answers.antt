use Rattle.dm_log.proofs.JsonLemmas.{hex_utf8}
use Rattle.dm_log.proofs.json_lines.object.hex_value.Goals as goal

pub text_value-requires : goal.text_value-requires
text_value-requires c = rw (c.in_ok-push_hex.ensures, c.new-text.ensures.items) (hex_utf8 c.args.bytes.now)
