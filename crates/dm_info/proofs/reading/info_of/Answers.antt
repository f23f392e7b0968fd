use Rattle.std.proofs.Common.{map}
use Rattle.dm_info.proofs.ReadingLemmas.{info_takes, of_steps}
use Rattle.dm_info.proofs.reading.info_of.Goals as goal

pub of_parts-requires : goal.of_parts-requires
of_parts-requires g c =
    let read = of_steps c.args.text.now c.in_ok-inside.inside.now c.in_ok-name.name.now c.in_ok-name.rest.now c.in_ok-author.author.now c.in_ok-author.rest.now c.in_ok-date.date.now c.in_ok-date.mark c.in_ok-date.rest.now (map (λ l. l.items) c.in_ok-log.log.items) c.in_ok-log.rest.now
    c.in_ok-inside.ensures c.in_ok-name.ensures c.in_ok-author.ensures c.in_ok-date.ensures (c.in_ok-log.ensures _) in
    rw c.in_ok-opening.ensures (info_takes _ _ _ read).valid

pub returns : goal.returns
returns g c =
    let read = of_steps c.args.text.now c.in_ok-inside.inside.now c.in_ok-name.name.now c.in_ok-name.rest.now c.in_ok-author.author.now c.in_ok-author.rest.now c.in_ok-date.date.now c.in_ok-date.mark c.in_ok-date.rest.now (map (λ l. l.items) c.in_ok-log.log.items) c.in_ok-log.rest.now
    c.in_ok-inside.ensures c.in_ok-name.ensures c.in_ok-author.ensures c.in_ok-date.ensures (c.in_ok-log.ensures _) in
    rw (c.of_parts.ensures, c.in_ok-opening.ensures) read
