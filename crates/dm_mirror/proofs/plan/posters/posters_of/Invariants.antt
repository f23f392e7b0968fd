use Rattle.std.proofs.Common.{◌≡◌, length, map, take}
use Rattle.std.specs.List.{AllByRecursion}
use Rattle.dm_mirror.proofs.plan.posters.posters_of.Given as goal

abbrev pub invariant-loop-texts : goal.invariant-loop-texts
invariant-loop-texts l = record {
  texts : map (λ poster. poster.texts.value.items) l.made.items ≡ map (λ texts. map (λ text. text.now) texts.now) (take l.texts-index l.fn.posters);
  copies : AllByRecursion (λ poster. length poster.copies.items ≡ l.fn.mirrors) l.made.items;
}
