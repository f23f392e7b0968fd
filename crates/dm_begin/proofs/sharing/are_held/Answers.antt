use Rattle.std.proofs.Common.{refl}
use Rattle.std.proofs.lemmas.List.{take_all}
use Rattle.dm_repo.proofs.MarksLemmas.{at_place, held_more}
use Rattle.dm_repo.proofs.Members.{from_at, none_of}
use Rattle.dm_begin.proofs.sharing.are_held.Goals as goal

pub loop-name-init : goal.loop-name-init
loop-name-init g c i m = absurd (none_of m)

pub returns-in-None : goal.returns-in-None
returns-in-None g c = (
  λ t. absurd (cc),
  λ h. absurd (c.in-None.ensures (h c.name-item.result (from_at c.args.names.now c.loop-name.name-index (at_place c.args.names.now c.loop-name.name-index c.name-item.result c.loop-name-test.true c.name-item.is)))),
)

pub loop-name-preserved : goal.loop-name-preserved
loop-name-preserved g c =
    held_more c.args.repo.now.patches c.args.names.now c.loop-name.name-index c.in-Some.field-0 c.name-item.result c.loop-name-test.true c.name-item.is c.in-Some.ensures c.loop-name.invariant

pub returns : goal.returns
returns g c = (λ t. rw (take_all c.loop-name.name-index c.args.names.now c.loop-name-test.false) at c.loop-name.invariant, λ h. refl)
