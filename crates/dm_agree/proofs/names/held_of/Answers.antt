use Rattle.std.proofs.Common.{List, subst}
use Rattle.std.proofs.lemmas.List.{take_all}
use Rattle.dm_info.specs.PatchInfo.{PatchInfo}
use Rattle.dm_named.specs.Patches.{Patch}
use Rattle.dm_repo.specs.Repositories.{Holds}
use Rattle.dm_agree.proofs.Searching.{at_get, held_more}
use Rattle.dm_agree.proofs.names.held_of.Goals as goal

pub returns-then-holds : goal.returns-then-holds
returns-then-holds g c = (c.index-patches-k.result, at_get c.args.patches.now c.loop-k.k c.index-patches-k.result c.loop-k-test.true c.index-patches-k.is, rw c.info.ensures at c.if-holds.ensures)

pub loop-k-preserved : goal.loop-k-preserved
loop-k-preserved g c = held_more c.args.patches.now c.args.repo.now.patches c.loop-k.k c.index-patches-k.result c.loop-k-test.true c.index-patches-k.is (rw c.info.ensures at c.if-holds.ensures) c.loop-k.invariant

pub returns : goal.returns
returns g c = subst (λ (ps : List Patch). (i : PatchInfo) → Holds ps i → Holds c.args.repo.now.patches i → ⊥) (take_all c.loop-k.k c.args.patches.now c.loop-k-test.false) c.loop-k.invariant
