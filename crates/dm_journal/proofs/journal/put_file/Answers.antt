use Rattle.std.proofs.Common.{◌≡◌, ◌+◌, ◌-◌, length, arith, refl, sym, subst}
use Rattle.dm_journal.specs.Format.{unit}
use Rattle.dm_journal.specs.Reading.{EndsSo}
use Rattle.dm_journal.proofs.Made.{has_latch, made_so}
use Rattle.dm_journal.proofs.journal.put_file.Goals as goal

pub overflow_sub-result : goal.overflow_sub-result
overflow_sub-result g c =
    let room = has_latch _ _ _ _ c.requires.whole.1 in
    omega (arith, room, c.unit.ensures.is)

pub returns-clause-texts : goal.returns-clause-texts
returns-clause-texts g c = λ texts w.
    let file = c.args.bytes.now in
    let room = has_latch _ _ _ _ w in
    let place : length file - c.unit.result + unit c.args.format ≡ length file = omega (arith, room, c.unit.ensures.is) in
    let ends = made_so c.args.format file texts c.args.link (length file - c.unit.result) (length file) w place refl in
    subst (λ l. EndsSo l texts (record { format = c.args.format; link = c.args.link; latch = length file - c.unit.result; size = length file })) (sym c.in_ok-replace_file.ensures.taken) ends
