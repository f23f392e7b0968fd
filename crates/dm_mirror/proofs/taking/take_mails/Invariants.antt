use Rattle.std.proofs.Common.{◌≡◌, ◌≤◌, length}
use Rattle.std.specs.Prelude.{vec_capacity}
use Rattle.dm_mail.specs.Ends.{all_taken, inlet_posters, SameInlet}
use Rattle.dm_mail.specs.Mails.{AllBelow}
use Rattle.dm_mirror.specs.PlainFolds.{IsPlainFold}
use Rattle.dm_mirror.proofs.taking.take_mails.Given as goal

abbrev pub invariant-loop : goal.invariant-loop
invariant-loop g l = record {
  same : SameInlet l.initial.inlet l.inlet;
  taken : all_taken l.inlet ≡ l.mails.items;
  room : l.expected ≤ vec_capacity l.mails;
  room_for_verdicts : l.expected ≤ vec_capacity l.verdicts;
  most : length l.mails.items ≤ l.expected;
  as_many : length l.verdicts.items ≡ length l.mails.items;
  below : AllBelow (inlet_posters l.inlet) l.mails.items;
  fold : IsPlainFold l.initial.repo.patches l.mails.items l.policy l.verdicts.items l.repo.patches;
}
