use Rattle.std.proofs.Common.{◌≡◌, true, false, ◌+◌, ◌-◌, List, [], ℕ, inr, length, take, drop, sym, ◌∙◌, ap, subst, arith}
use Rattle.std.proofs.lemmas.List.{take_rest, length-drop}
use Rattle.dm_journal.specs.declared.texts.Range.{Range}
use Rattle.dm_journal.specs.Faults.{EndsEarly}
use Rattle.dm_journal.specs.Format.{unit}
use Rattle.dm_journal.specs.Hidden.{AreTwoBlocks, TellsHidden}
use Rattle.dm_journal.specs.Journal.{Begins, IsLatch, link_after, link_bytes}
use Rattle.dm_journal.specs.Texts.{ranges_of}
use Rattle.dm_journal.proofs.Found.{range_push}
use Rattle.dm_journal.proofs.OneAnswer.{none_hidden}
use Rattle.dm_journal.proofs.reading.read_blocks.Goals.{then-hides, else-hides}
use Rattle.dm_journal.proofs.reading.read_blocks.Goals as goal

pub returns-in-End-clause-ok : goal.returns-in-End-clause-ok
returns-in-End-clause-ok c =
    let file = c.args.bytes.now in
    let format = c.in_ok-format.format in
    let texts = ranges_of file c.walk.ranges.items in
    let rest = drop c.walk.at file in
    let behind = drop (unit format) rest in
    let here = take_rest file c.walk.at in
    let closed = subst (λ (l : List ℕ). IsLatch format 0 (drop (unit format) l) l) here c.in-End.ensures in
    let place : c.walk.at + length rest ≡ length file = omega (arith, c.walk.invariant.within, length-drop c.walk.at file) in
    let yes = λ (e : c.hides.result ≡ true). subst (AreTwoBlocks format (link_after format [] texts)) (ap (drop (unit format)) here) (subst (λ (l : List ℕ). AreTwoBlocks format l (drop (unit format) (take (length file - c.walk.at) rest))) c.walk.invariant.linked (c.hides.ensures.yes e)) in
    let no = λ (e : c.hides.result ≡ false) (two : AreTwoBlocks format (link_after format [] texts) behind). c.hides.ensures.no e (subst (λ (l : List ℕ). AreTwoBlocks format l (drop (unit format) (take (length file - c.walk.at) rest))) (sym c.walk.invariant.linked) (subst (AreTwoBlocks format (link_after format [] texts)) (sym (ap (drop (unit format)) here)) two)) in
    record {
      rest = rest;
      begins = c.walk.invariant.begins;
      behind = behind;
      closed = closed;
      link = c.walk.invariant.linked;
      place = place;
      hidden = elim c.if-hides.branch [
        | then-hides w ↦ subst (TellsHidden file) (sym w.hidden-is) (record { format = format; texts = texts; rest = rest; begins = c.walk.invariant.begins; place = place; behind = behind; closed = closed; blocks = yes w.if-hides.true })
        | else-hides w ↦ subst (TellsHidden file) (sym w.hidden-is) (none_hidden format file texts rest behind c.walk.invariant.begins closed (no w.if-hides.false))
      ];
    }

pub walk-preserved : goal.walk-preserved
walk-preserved c =
    let file = c.args.bytes.now in
    let format = c.in_ok-format.format in
    let behind = c.walk.at + c.unit.result in
    let pushed = range_push format (link_bytes c.walk.link) file c.walk.ranges.items c.walk.at behind c.in-Whole.len c.in-Whole.size c.in-Whole.checksum (ap (λ (n : ℕ). c.walk.at + n) c.unit.ensures.is) c.walk.invariant.within c.walk.invariant.begins c.walk.invariant.linked c.in-Whole.ensures in
    let items = c.in_ok-push-in-Whole.ensures.items in
    record {
      within = pushed.0;
      begins = subst (λ (l : List Range). Begins format file (ranges_of file l) (drop (behind + c.in-Whole.size) file)) (sym items) pushed.1;
      linked = c.next_link-link.ensures ∙ pushed.2 ∙ ap (λ (l : List Range). link_after format [] (ranges_of file l)) (sym items);
    }

pub returns-in-Cut-clause-fault : goal.returns-in-Cut-clause-fault
returns-in-Cut-clause-fault c =
    let file = c.args.bytes.now in
    let format = c.in_ok-format.format in
    let texts = ranges_of file c.walk.ranges.items in
    inr (record {
      format = format;
      texts = texts;
      rest = drop c.walk.at file;
      begins = c.walk.invariant.begins;
      place = omega (arith, c.walk.invariant.within, length-drop c.walk.at file);
      why = subst (EndsEarly format (link_after format [] texts)) (take_rest file c.walk.at) c.in-Cut.ensures;
    })
