use Rattle.std.proofs.Common.{◌≡◌, ◌∙◌, ◌++◌, ◌+◌, arith, List, ℕ, length, ap, subst}
use Rattle.std.proofs.Math.ListN.{replicate}
use Rattle.dm_journal.specs.Format.{filling}
use Rattle.dm_journal.specs.Journal.{checksum_of}
use Rattle.dm_journal.specs.Reading.{IsFront}
use Rattle.dm_journal.proofs.Made.{one_made}
use Rattle.dm_journal.proofs.writing.wrap.Goals as goal

pub returns-clause-text : goal.returns-clause-text
returns-clause-text c =
    let text = c.args.text.items in
    let format = c.args.format in
    let checksum = c.checksum-checksum.result in
    let front = c.in_ok-front.front.items in
    let len : c.len-len.result ≡ length text = c.len-len.ensures ∙ c.args.text.ok.0 in
    let sum = c.checksum-checksum.ensures ∙ ap (λ (t : List ℕ). checksum_of format _ t) c.deref.ensures.value in
    let is_front = subst (λ (n : ℕ). IsFront format n checksum front) len c.in_ok-front.ensures.bytes in
    let pushed = c.in_ok-push_front.ensures.bytes ∙ ap (λ (l : List ℕ). l ++ text) c.deref-2.ensures.value in
    let filled = c.in_ok-fill_up.ensures.bytes
    ∙ ap (λ (l : List ℕ). l ++ replicate (filling format (40 + c.len-len.result)) 0) pushed
    ∙ ap (λ (n : ℕ). (front ++ text) ++ replicate (filling format (40 + n)) 0) len in
    let closed = c.in_ok-push_latch.ensures.bytes in
    one_made format checksum text front c.push_latch.new.bytes.items closed.0 _ (omega (arith, c.requires)) sum is_front
    (closed.1 ∙ ap (λ (l : List ℕ). l ++ closed.0) filled) closed.2 c.next_link.ensures
