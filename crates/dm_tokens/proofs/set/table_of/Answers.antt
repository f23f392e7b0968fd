use Rattle.std.proofs.Common.{[], ◌∷◌, ◌++◌, List, ap, ◌∙◌}
use Rattle.dm_tokens.specs.Sets.{Range, ranges_of, unescaped}
use Rattle.dm_tokens.proofs.SetLemmas.{read_more, read_none, table_more, table_none}
use Rattle.dm_tokens.proofs.set.table_of.Goals as goal

pub loop-read-init : goal.loop-read-init
loop-read-init c = ([], read_none (unescaped c.args.text.now), table_none c.args.round)

pub loop-read-preserved : goal.loop-read-preserved
loop-read-preserved c =
    let done : List Range = c.loop-read.invariant.0 in
    let r : Range = record { first = c.in_ok-found.found.first; last = c.in_ok-found.found.last } in (
      done ++ r ∷ [],
      read_more (unescaped c.args.text.now) (unescaped c.loop-read.rest.now) (unescaped c.in_ok-found.found.rest.now) done r c.loop-read.invariant.1
          (ap ranges_of c.in-Some.ensures.some ∙ c.in_ok-found.ensures.some),
      table_more c.args.round c.loop-read.table c.mark.new.table done r c.loop-read.invariant.2 c.mark.array_long c.mark.ensures,
    )
