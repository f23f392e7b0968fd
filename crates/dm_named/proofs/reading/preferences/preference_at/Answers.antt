use Rattle.std.proofs.Common.{drop}
use Rattle.dm_named.proofs.PreferenceLemmas.{read_is_valid}
use Rattle.dm_named.proofs.reading.preferences.preference_at.Goals as goal

pub change_of-requires : goal.change_of-requires
change_of-requires g c =
    let text = c.args.text.now in
    read_is_valid (drop c.skip-here.result text) c.in-Some.name.now c.in-Some.old.now c.in-Some.new.now (drop c.in-Some.end text) c.in-Some.ensures.found
