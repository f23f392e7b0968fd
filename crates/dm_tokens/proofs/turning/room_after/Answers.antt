use Rattle.std.proofs.Common.{ap, length, arith}
use Rattle.dm_tokens.specs.Sets.{in_table}
use Rattle.dm_tokens.proofs.PieceLemmas.{empty_rest}
use Rattle.dm_tokens.proofs.TurnLemmas.{made, turned_none, turned_size}
use Rattle.dm_tokens.proofs.turning.room_after.Goals as goal

pub returns-then-left-turned : goal.returns-then-left-turned
returns-then-left-turned c y h =
    let s = in_table c.args.set.now in
    let size = turned_size s c.args.old.now c.args.new.now c.loop-rest.rest.now c.pick-turned.result.now c.first_len-len.result c.first_len-len.ensures.piece c.pick-turned.ensures in
    let is = ap length (made s c.args.old.now c.args.new.now c.args.text.now y h) in
    omega (arith, size, is, c.loop-rest.invariant, c.if-left-turned.true)

pub loop-rest-preserved : goal.loop-rest-preserved
loop-rest-preserved c =
    let s = in_table c.args.set.now in
    let size = turned_size s c.args.old.now c.args.new.now c.loop-rest.rest.now c.pick-turned.result.now c.first_len-len.result c.first_len-len.ensures.piece c.pick-turned.ensures in
    omega (arith, size, c.loop-rest.invariant, c.if-left-turned.false)

pub returns : goal.returns
returns c y h =
    let s = in_table c.args.set.now in
    let is = ap length (made s c.args.old.now c.args.new.now c.args.text.now y h) in
    let none = turned_none s c.args.old.now c.args.new.now c.loop-rest.rest.now (empty_rest c.loop-rest.rest.now c.is_empty.result c.is_empty.ensures c.loop-rest-test.false) in
    omega (arith, is, none, c.loop-rest.invariant)
