use Rattle.std.proofs.Common.{◌≡◌, List, ℕ, length, arith, ◌∙◌, ap, sym, subst}
use Rattle.dm_journal.specs.Faults.{HasFault}
use Rattle.dm_journal.specs.Reading.{IsFaultOf, EndsSo}
use Rattle.dm_journal.specs.Texts.{ranges_of}
use Rattle.dm_journal.proofs.Made.{ends_so}
use Rattle.dm_journal.proofs.journal.read_journal.Goals as goal

pub returns-in-Ok-clause-texts : goal.returns-in-Ok-clause-texts
returns-in-Ok-clause-texts g c =
    let reading = c.in-Ok.reading in
    let read = c.deref.ensures.value ∙ c.in_ok-bytes.ensures.bytes in
    let size : c.len.result ≡ length c.deref.result.now = omega (arith, c.len.ensures, c.deref.ensures.len) in
    let ends = subst (λ l. EndsSo l (ranges_of l reading.ranges.items) (record { format = reading.format; link = reading.link; latch = reading.latch; size = c.len.result })) read (ends_so c.deref.result.now reading c.len.result c.in-Ok.ensures.ok size) in
    let texts = c.new.ensures ∙ ap (λ (l : List ℕ). ranges_of l reading.ranges.items) c.in_ok-bytes.ensures.bytes in
    subst (λ l. EndsSo (g.D.Device.seen c.args.device.now) l (record { format = reading.format; link = reading.link; latch = reading.latch; size = c.len.result })) (sym texts) ends

pub returns-in-Err-clause-fault : goal.returns-in-Err-clause-fault
returns-in-Err-clause-fault g c fault same =
    subst (λ (l : List ℕ). HasFault l fault) (c.deref.ensures.value ∙ c.in_ok-bytes.ensures.bytes) (subst (IsFaultOf c.deref.result.now) same c.in-Err.ensures.fault)
