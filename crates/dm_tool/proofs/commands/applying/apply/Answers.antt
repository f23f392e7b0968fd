use Rattle.dm_files.proofs.MirrorLemmas.{if_ok}
use Rattle.dm_tool.proofs.commands.applying.apply.Goals as goal

pub returns : goal.returns
returns g c = if_ok c.apply_from.result (λ status taken not more.
    let after = taken not more in
    record { file = c.in_ok-file.file; file_read = rw c.kinds_of.ensures at c.in_ok-file.ensures; base = after.0; alike = after.1; taken = after.2 }) c.apply_from.ensures
