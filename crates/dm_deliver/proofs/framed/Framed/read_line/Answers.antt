use Rattle.std.proofs.Common.{◌≡◌, ap, ◌∙◌, arith, None, false}
use Rattle.std.specs.Prelude.{is_none}
use Rattle.std.specs.Io.KnownBytes.{IsAtEnd}
use Rattle.dm_deliver.specs.declared.place.Place.TheVariants.{Line}
use Rattle.dm_deliver.proofs.LineLemmas.{cut_at}
use Rattle.dm_deliver.proofs.framed.Framed.read_line.Goals as goal

pub returns-in-None-2-2-clause-fault : goal.returns-in-None-2-2-clause-fault
returns-in-None-2-2-clause-fault g c =
    let place : c.loop-self.self.place ≡ Line c.in-Line.number None = c.in-Line.is ∙ ap (Line c.in-Line.number) c.in-None.is in
    let some : is_none c.in-Line.number ≡ false = grind (arith, c.is_none.ensures, c.if-is_none.false) in
    let ended : IsAtEnd (g.R.Read.remaining c.read_byte.new.reader) = rw c.in-None-2.is at c.in_ok-byte-in-None.ensures.end in
    cut_at c.loop-self.self.place c.in-Line.number _ (g.R.Read.remaining c.read_byte.new.reader) place some ended
