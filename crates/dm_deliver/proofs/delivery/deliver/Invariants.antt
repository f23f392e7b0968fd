use Rattle.std.proofs.Common.{◌≡◌, List, ℕ, ◌↔◌, All, IsTrue}
use Rattle.dm_store.specs.Kinds.{kinds_in}
use Rattle.dm_store.specs.Keeping.{CrashesKeep, IsStored, kept_in}
use Rattle.dm_deliver.specs.Answering.{IsAcceptedAnswer}
use Rattle.dm_deliver.specs.Delivering.{Delivers}
use Rattle.dm_deliver.specs.Outputs.{output}
use Rattle.dm_deliver.proofs.delivery.deliver.Given as goal

abbrev pub invariant-loop-text : goal.invariant-loop-text
invariant-loop-text g l =
    ((d : Delivers g.D.Device.moment g.D.Device.left_since (g.F.Form.says l.fn.form) (λ (texts : List (List ℕ)). g.S.Source.gave l.fn.source texts l.source) l.fn.policy l.fn.rule l.fn.store l.store
    (output g.W.Write.contents l.fn.writer) (output g.W.Write.contents l.writer)) × (IsTrue l.all_accepted ↔ All IsAcceptedAnswer d.answers)) ×
    IsStored g.D.Device.seen g.D.Device.may_leave g.D.Device.file_may_leave l.store ×
    CrashesKeep (kinds_in l.store) g.D.Device.may_leave l.store.journal.device (kept_in l.store) ×
    (l.store.base ≡ l.fn.store.base)

abbrev pub decreases-loop-text : goal.decreases-loop-text
decreases-loop-text g l = g.S.Source.most l.source
