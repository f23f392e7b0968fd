use Rattle.dm_named.proofs.NamedLemmas.{three_more}
use Rattle.dm_log.proofs.verbose.push_patch.Goals as goal

pub returns : goal.returns
returns g c = rw (← c.info.ensures, ← c.deps.ensures, ← c.prims.ensures)
    (three_more c.args.out.now.items _ _ _ c.push_info.new.out.items c.push_deps.new.out.items c.push_shown_body.new.out.items c.in_ok-push_info.ensures.ok c.in_ok-push_deps.ensures.text c.in_ok-push_shown_body.ensures)
