use Rattle.std.proofs.Common.{arith, sym}
use Rattle.std.proofs.lemmas.List.{take_rest, drop_all}
use Rattle.dm_date.proofs.old.tail.Goals as goal

pub returns-then-at-text : goal.returns-then-at-text
returns-then-at-text c = take_rest c.args.text.now c.args.at

pub returns-else-at-text : goal.returns-else-at-text
returns-else-at-text c = sym (drop_all c.args.at c.args.text.now (omega arith))
