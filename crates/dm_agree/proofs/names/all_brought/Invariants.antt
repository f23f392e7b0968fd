use Rattle.std.proofs.Common.{take, map}
use Rattle.dm_agree.proofs.Bringing.{Are}
use Rattle.dm_agree.proofs.names.all_brought.Given as goal

abbrev pub invariant-loop-text : goal.invariant-loop-text
invariant-loop-text g l = Are l.limits (map (λ t. t.now) (take l.text-index l.texts)) l.bundles.items
