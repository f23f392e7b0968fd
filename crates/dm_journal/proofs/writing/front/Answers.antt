use Rattle.std.proofs.Common.{rules, ◌≡◌, ◌∙◌, ◌++◌, List, ℕ, length, ap, append_assoc}
use Rattle.std.proofs.Math.ListN.{replicate}
use Rattle.std.specs.Int.{w64, to_le_bytes}
use Rattle.dm_journal.specs.Format.{filling}
use Rattle.dm_journal.proofs.Made.{header_made}
use Rattle.dm_journal.proofs.writing.front.Goals as goal

pub returns-clause-bytes : goal.returns-clause-bytes
returns-clause-bytes c =
    let line = c.line-line.result.now in
    let copied : c.in_ok-front.front.items ≡ line = search rules in
    let filled = ap (λ (l : List ℕ). l ++ replicate (filling c.args.format (length line)) 0) copied in
    let is = c.in_ok-fill_up.ensures.bytes ∙ filled ∙ ap (λ (l : List ℕ). l ++ replicate (filling c.args.format (length l)) 0) c.line-line.ensures.is in
    let header = c.fill_up.new.bytes.items in
    let latch = c.in_ok-push_latch.ensures.bytes in
    let number = to_le_bytes w64 c.args.len in
    let one : c.extend_from_slice.new.self.items ≡ c.push_latch.new.bytes.items ++ number = search rules in
    let two : c.extend_from_slice-2.new.self.items ≡ c.extend_from_slice.new.self.items ++ c.args.checksum.now = search rules in
    record {
      header = header;
      latch = latch.0;
      begins = header_made c.args.format header is;
      opens = latch.2;
      is = two
          ∙ ap (λ (l : List ℕ). l ++ c.args.checksum.now) (one ∙ ap (λ (l : List ℕ). l ++ number) latch.1)
          ∙ append_assoc (header ++ latch.0) number c.args.checksum.now
          ∙ append_assoc header latch.0 (number ++ c.args.checksum.now);
    }
