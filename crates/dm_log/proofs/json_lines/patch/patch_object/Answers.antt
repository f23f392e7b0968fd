use Rattle.std.proofs.Common.{refl}
use Rattle.dm_log.proofs.json_lines.patch.patch_object.Goals as goal

pub returns : goal.returns
returns g c =
    rw (
      c.in_ok-put-3.ensures,
      c.in_ok-put-2.ensures,
      c.in_ok-put.ensures,
      c.in_ok-object.ensures,
      c.in_ok-changes_value.ensures,
      c.in_ok-hashes_value.ensures,
      c.from.ensures,
      c.info.ensures,
      c.prims.ensures,
      c.deps.ensures,
    ) refl
