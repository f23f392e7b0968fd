use Rattle.dm_log.specs.Entries.{patch_hash}
use Rattle.dm_log.proofs.JsonLemmas.{hex_utf8}
use Rattle.dm_log.proofs.json_lines.patch.hash_value.Goals as goal

pub text_value-requires : goal.text_value-requires
text_value-requires g c = rw c.in_ok-hash_text.ensures (hex_utf8 (patch_hash c.args.info.now))
