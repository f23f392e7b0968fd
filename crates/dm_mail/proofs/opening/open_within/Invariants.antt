use Rattle.std.proofs.Common.{◌≡◌, ◌<◌, true, [], length}
use Rattle.crossbeam_channel.specs.Claims.{view, IsSeatAt}
use Rattle.crossbeam_channel.specs.Ends.{sends_on}
use Rattle.dm_mail.specs.Ends.{pass_id}
use Rattle.dm_mail.proofs.EndLemmas.{AreNew}
use Rattle.dm_mail.proofs.opening.open_within.Given as goal

abbrev pub invariant-loop-poster : goal.invariant-loop-poster
invariant-loop-poster g l = record {
  seated : IsSeatAt (sends_on l.sender) l.pass;
  is_mirror : (view l.pass).is_mirror ≡ true;
  posters : (view l.pass).posters ≡ l.poster;
  taken : (view l.pass).taken ≡ [];
  agrees : (view l.pass).is_told ≡ true → (view l.pass).bound ≡ g.B.Bound.bound;
  told : 0 < l.poster → (view l.pass).is_told ≡ true;
  same : pass_id l.pass ≡ pass_id l.initial.pass;
  count : length l.outlets.items ≡ l.poster;
  new : AreNew (pass_id l.pass) 0 l.outlets.items;
}
