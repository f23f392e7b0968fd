use Rattle.std.specs.Prelude.{codes}
use Rattle.dm_named.proofs.NamedLemmas.{three_more}
use Rattle.dm_log.specs.Dates.{date_text}
use Rattle.dm_log.proofs.entry.push_date_line.Goals as goal

pub returns : goal.returns
returns g c =
    three_more c.args.out.now.items (codes "Date:   ") (date_text c.args.date.now) (codes "\n")
    c.extend_from_slice.new.self.items c.push_date.new.out.items c.push.new.self.items
    c.in_ok-extend_from_slice.ensures.items c.in_ok-push_date.ensures c.in_ok-push.ensures.items
