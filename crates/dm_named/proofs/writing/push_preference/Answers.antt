use Rattle.std.specs.Prelude.{codes}
use Rattle.dm_named.proofs.NamedLemmas.{lines_more}
use Rattle.dm_named.proofs.writing.push_preference.Goals as goal

pub returns-clause-text : goal.returns-clause-text
returns-clause-text g c =
    rw (← c.name.ensures.value, ← c.old.ensures, ← c.new_value.ensures)
    (lines_more c.args.out.now.items (codes "changepref ") c.name.result.now c.old.result.now c.new_value.result.now c.extend_from_slice.new.self.items c.push_line.new.out.items c.push_line-2.new.out.items c.push_line-3.new.out.items
    c.in_ok-extend_from_slice.ensures.items c.in_ok-push_line.ensures c.in_ok-push_line-2.ensures c.in_ok-push_line-3.ensures)
