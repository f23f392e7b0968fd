use Rattle.dm_prim.proofs.TableLemmas.{no_places, at_places}
use Rattle.dm_prim.proofs.pair.commute_hunks.Goals as goal

pub returns-in_err-second_line : goal.returns-in_err-second_line
returns-in_err-second_line g c = rw c.from_residual.ensures (no_places c.args.first c.args.second _ _ _ _ _ _ c.span.ensures.line c.span.ensures.old c.span.ensures.new
    c.span-2.ensures.line c.span-2.ensures.old c.span-2.ensures.new c.requires c.in_err-second_line.ensures)

pub returns : goal.returns
returns g c = let l = c.in_ok-second_line.ensures in rw (c.at_line.ensures, c.at_line-2.ensures)
    (at_places c.args.first c.args.second _ _ _ _ _ _ c.span.ensures.line c.span.ensures.old c.span.ensures.new
    c.span-2.ensures.line c.span-2.ensures.old c.span-2.ensures.new c.requires c.span.ensures.valid c.span-2.ensures.valid _ _ l.0 l.1 l.2)
