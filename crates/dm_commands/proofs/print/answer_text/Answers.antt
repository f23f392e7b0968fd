use Rattle.std.proofs.Common.{refl}
use Rattle.dm_commands.proofs.print.answer_text.Goals as goal

pub returns : goal.returns
returns c =
    let shown = c.in_ok-push_repo.ensures in
    record { shown = shown.0; shows = shown.1; bytes = rw (shown.2, c.in_ok-push_verdict.ensures, c.new-text.ensures.items) refl }
