use Rattle.std.proofs.Common.{◌≡◌, ◌++◌, List, length}
use Rattle.std.specs.Option.{option_map}
use Rattle.dm_tokens.specs.Sets.{Range, ranges_of, unescaped}
use Rattle.dm_tokens.specs.Reading.{IsTableOf}
use Rattle.dm_tokens.proofs.set.table_of.Given as goal

abbrev pub invariant-loop-read : goal.invariant-loop-read
invariant-loop-read l =
    (done : List Range) × (ranges_of (unescaped l.text) ≡ option_map (λ (rs : List Range). done ++ rs) (ranges_of (unescaped l.rest))) × IsTableOf l.round l.table done

abbrev pub decreases-loop-read : goal.decreases-loop-read
decreases-loop-read l = length l.rest
