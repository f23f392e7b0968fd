use Rattle.std.proofs.Common.{◌≡◌, ◌-◌, ◌<◌, ◌≤◌, arith, drop, length, refl, sym, ◌∙◌}
use Rattle.dm_tree.proofs.Edits.{differ_by, edits_by, none_left}
use Rattle.dm_tree.proofs.Fronts.{refuted}
use Rattle.dm_tree.proofs.Steps.{no_rest, some_rest}
use Rattle.dm_tree.proofs.edit.edit_refused.Goals.{else-len-count-via-then-len-count+else-is_empty, else-len-count-via-else-len-count}
use Rattle.dm_tree.proofs.edit.edit_refused.Goals as goal

pub returns-then-not-begins-clause-fault : goal.returns-then-not-begins-clause-fault
returns-then-not-begins-clause-fault g c =
    let ls = c.args.file.now in
    let n = c.args.line in
    let differ = c.if-not-begins.ensures in (
      (omega (arith, c.if-line-eq0.false), omega (arith, c.if-line-eq0.false, c.if-count-start.false, c.if-count-start-2.false)),
      differ_by c.args.old.now (drop (n - 1) ls) (refuted differ),
    )

pub returns-then-is_empty-clause-fault : goal.returns-then-is_empty-clause-fault
returns-then-is_empty-clause-fault g c =
    let ls = c.args.file.now in
    let n = c.args.line in
    let some : 0 < n = omega (arith, c.if-line-eq0.false) in
    let within : n - 1 ≤ length ls = omega (arith, c.if-count-start.false) in
    let begins = c.if-not-begins.ensures.0 refl in
    none_left ls n c.args.old.now c.args.new.now some within begins (sym c.len-2.ensures ∙ c.if-len-count.true ∙ c.len-count.ensures.value) (no_rest c.args.new.now (sym c.if-is_empty.ensures))

pub returns-clause-fault : goal.returns-clause-fault
returns-clause-fault g c =
    let ls = c.args.file.now in
    let n = c.args.line in
    let some : 0 < n = omega (arith, c.if-line-eq0.false) in
    let within : n - 1 ≤ length ls = omega (arith, c.if-count-start.false) in
    let begins = c.if-not-begins.ensures.0 refl in
    let left : length c.args.old.now ≡ length ls → 0 < length c.args.new.now = elim c.else-len-count.branch [
      | else-len-count-via-then-len-count+else-is_empty w ↦ λ _. some_rest c.args.new.now (sym w.if-is_empty.ensures)
      | else-len-count-via-else-len-count w ↦ λ e. omega (arith, e, w.if-len-count.false)
    ] in
    edits_by ls n c.args.old.now c.args.new.now some within begins left
