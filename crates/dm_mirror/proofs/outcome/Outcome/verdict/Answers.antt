use Rattle.dm_repo.proofs.MarksLemmas.{at_place}
use Rattle.dm_mirror.proofs.DeliveryLemmas.{within_verdicts}
use Rattle.dm_mirror.proofs.outcome.Outcome.verdict.Goals as goal

pub returns : goal.returns
returns c =
    let o = c.args.self.now in
    let mirror = c.mirror.result.now in
    let here = within_verdicts o.posters o.mirrors.items c.args.m c.args.k mirror o.complete c.mirror.ensures c.requires.1 in
    (mirror, c.mirror.ensures, at_place mirror.verdicts.items c.args.k c.index.result.now here c.index.ensures)
