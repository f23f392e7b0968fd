use Rattle.std.proofs.Common.{rules, ◌≡◌, ◌++◌, [], List, ℕ, length, take, map, refl, ◌∙◌, ap, subst}
use Rattle.std.proofs.Math.ListN.{replicate}
use Rattle.std.proofs.lemmas.List.{take_all}
use Rattle.dm_journal.specs.Format.{filling}
use Rattle.dm_journal.specs.Journal.{Begins, link_after, link_bytes}
use Rattle.dm_journal.proofs.Made.{header_made, closed_made, next_text}
use Rattle.dm_journal.proofs.writing.write_whole.Goals as goal

pub loop-text-init : goal.loop-text-init
loop-text-init c =
    let line = c.line-line.result.now in
    let copied : c.in_ok-bytes.bytes.items ≡ line = search rules in
    let filled = ap (λ (l : List ℕ). l ++ replicate (filling c.args.format (length line)) 0) copied in
    let is = c.in_ok-fill_up.ensures.bytes ∙ filled ∙ ap (λ (l : List ℕ). l ++ replicate (filling c.args.format (length l)) 0) c.line-line.ensures.is in
    record { begins = header_made c.args.format c.fill_up.new.bytes.items is; linked = refl }

pub loop-text-preserved : goal.loop-text-preserved
loop-text-preserved c =
    let more = next_text c.args.format (λ text. text.now) c.args.texts.now c.loop-text.text-index (record { ref_ptr = (0, 0); now = [] }) c.loop-text.bytes.items c.push_text.new.bytes.items (link_bytes c.loop-text.link) (link_bytes c.in_ok-link.link) (search rules) c.loop-text.invariant.begins c.loop-text.invariant.linked c.in_ok-link.ensures.bytes c.in_ok-link.ensures.link in
    record { begins = more.0; linked = more.1 }

pub returns-clause-texts : goal.returns-clause-texts
returns-clause-texts c =
    let all : take c.loop-text.text-index c.args.texts.now ≡ c.args.texts.now = take_all _ _ (search rules) in
    let pushed = c.in_ok-push_latch.ensures.bytes in
    let begins = closed_made c.args.format c.loop-text.bytes.items c.push_latch.new.bytes.items (map (λ text. text.now) (take c.loop-text.text-index c.args.texts.now)) pushed.0 c.loop-text.invariant.begins pushed.1 in
    record {
      rest = pushed.0;
      begins = subst (λ l. Begins c.args.format c.push_latch.new.bytes.items (map (λ text. text.now) l) pushed.0) all begins;
      closed = pushed.2;
      is = c.loop-text.invariant.linked ∙ ap (λ l. link_after c.args.format [] (map (λ text. text.now) l)) all;
    }
