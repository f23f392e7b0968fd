use Rattle.dm_named.proofs.NamedLemmas.{three_more}
use Rattle.dm_named.proofs.writing.merged.push_merged.Goals as goal

pub returns-clause-valid : goal.returns-clause-valid
returns-clause-valid g c = record {
  info = rw (← c.info.ensures) c.in_ok-push_info.ensures.valid;
  deps = rw (← c.deps.ensures) c.in_ok-push_deps.ensures.valid;
  body = rw (← c.body.ensures) c.in_ok-push_body_of_items.ensures.valid;
}

pub returns-clause-ok : goal.returns-clause-ok
returns-clause-ok g c = rw (← c.info.ensures, ← c.deps.ensures, ← c.body.ensures)
    (three_more c.args.out.now.items _ _ _ c.push_info.new.out.items c.push_deps.new.out.items c.push_body_of_items.new.out.items c.in_ok-push_info.ensures.ok c.in_ok-push_deps.ensures.text c.in_ok-push_body_of_items.ensures.text)

pub returns-clause-bytes : goal.returns-clause-bytes
returns-clause-bytes g c = rw (← c.body.ensures) c.in_ok-push_body_of_items.ensures.bytes
