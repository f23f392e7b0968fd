use Rattle.std.proofs.Common.{◌≡◌, ◌≤◌, ◌*◌, map, take}
use Rattle.dm_mirror.specs.Deliveries.{mails_in}
use Rattle.dm_mirror.proofs.plan.posters.count_mails.Given as goal

abbrev pub invariant-loop-texts : goal.invariant-loop-texts
invariant-loop-texts l = record {
  count : l.count ≡ mails_in (map (λ texts. map (λ text. text.now) texts.now) (take l.texts-index l.fn.posters));
  most : l.count ≤ l.texts-index * 1001;
}
