use Rattle.std.proofs.Common.{◌≤◌, arith}
use Rattle.dm_tokens.specs.Sets.{in_table}
use Rattle.dm_prim.specs.Table.{lines_size, most_passed}
use Rattle.dm_prim.proofs.TurnedLines.{no_part, part_by}
use Rattle.dm_prim.proofs.passing.turn_part.Goals as goal

pub returns-in-Same : goal.returns-in-Same
returns-in-Same g c =
    let was : lines_size c.args.lines ≤ most_passed = omega (arith, c.if-size-len.false, c.size.ensures, c.len.ensures.value) in
    let t = rw c.in-Same.is at (rw (c.old.ensures, c.new_token.ensures) at c.part_turns.ensures) in
    part_by c.args.tokens.now (in_table c.token_set-set.result) c.token_set-set.ensures.valid c.token_set-set.ensures.set c.args.lines c.args.lines t was was

pub returns-in-Nothing : goal.returns-in-Nothing
returns-in-Nothing g c =
    let t = rw c.in-Nothing.is at (rw (c.old.ensures, c.new_token.ensures) at c.part_turns.ensures) in
    no_part c.args.tokens.now (in_table c.token_set-set.result) c.token_set-set.ensures.valid c.token_set-set.ensures.set c.args.lines t

pub returns-in_ok-turned-in-Other : goal.returns-in_ok-turned-in-Other
returns-in_ok-turned-in-Other g c =
    let was : lines_size c.args.lines ≤ most_passed = omega (arith, c.if-size-len.false, c.size.ensures, c.len.ensures.value) in
    let t = rw (c.old-in-Other-2.ensures, c.new_token-in-Other-2.ensures) at c.in_ok-turned-in-Other.ensures in
    let small = rw (c.old-in-Other.ensures, c.new_token-in-Other.ensures) at c.in-Some.ensures in
    part_by c.args.tokens.now (in_table c.token_set-set.result) c.token_set-set.ensures.valid c.token_set-set.ensures.set c.args.lines c.in_ok-turned-in-Other.turned t was (small c.in_ok-turned-in-Other.turned t)
