use Rattle.std.proofs.Common.{◌<◌, length, take, sym, subst, arith}
use Rattle.dm_tree.specs.Trees.{Lines}
use Rattle.dm_tokens.specs.Sets.{in_table}
use Rattle.dm_tokens.specs.Turning.{TurnsAs}
use Rattle.dm_prim.proofs.TurnedLines.{TurnSo, next_line, stays_so, turns_so}
use Rattle.dm_prim.proofs.passing.part_turns.Goals.{in-Same, in-Other}
use Rattle.dm_prim.proofs.passing.part_turns.Goals as goal

pub loop-i-preserved : goal.loop-i-preserved
loop-i-preserved g c =
    let s = in_table c.args.set.now in
    let x = c.line.result.now in
    let done = take c.loop-i.i c.args.lines.now in
    let there : c.loop-i.i < length c.args.lines.now = omega (arith, c.loop-i-test.true, c.len-i-end.ensures.value) in
    let next = next_line c.args.lines.now c.loop-i.i x there c.line.ensures in
    subst (λ (z : Lines). TurnSo s c.args.old.now c.args.new.now z c.match-turns.turned) (sym next) (elim c.match-turns.branch [
      | in-Same w ↦ rw w.turned-is (stays_so s c.args.old.now c.args.new.now done x c.loop-i.turned c.loop-i.invariant (subst (λ t. TurnsAs s c.args.old.now c.args.new.now x t) w.in-Same.is c.turns.ensures))
      | in-Other w ↦ let k = subst (λ t. TurnsAs s c.args.old.now c.args.new.now x t) w.in-Other.is c.turns.ensures in
          rw w.turned-is (turns_so s c.args.old.now c.args.new.now done x c.loop-i.turned c.loop-i.invariant k.0 k.1 k.2)
    ])
