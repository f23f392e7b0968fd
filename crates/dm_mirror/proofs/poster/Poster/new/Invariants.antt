use Rattle.std.proofs.Common.{◌≡◌, length, map}
use Rattle.std.specs.List.{All}
use Rattle.dm_mirror.proofs.poster.Poster.new.Given as goal

abbrev pub invariant-loop : goal.invariant-loop
invariant-loop l = record {
  alike : All (λ copy. copy.items ≡ map (λ text. text.now) l.fn.texts) l.copies.items;
  count : length l.copies.items ≡ l.counter;
}
