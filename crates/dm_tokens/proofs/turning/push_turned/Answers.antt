use Rattle.dm_tokens.specs.Sets.{in_table}
use Rattle.dm_tokens.proofs.PieceLemmas.{empty_rest}
use Rattle.dm_tokens.proofs.TurnLemmas.{pushed_all, pushed_more}
use Rattle.dm_tokens.proofs.turning.push_turned.Goals as goal

pub loop-rest-preserved : goal.loop-rest-preserved
loop-rest-preserved g c =
    pushed_more (in_table c.args.set.now) c.args.old.now c.args.new.now c.args.text.now c.loop-rest.rest.now c.args.out.now.items c.loop-rest.out.items c.extend_from_slice.new.self.items
    c.loop-rest.invariant.0 c.pick-turned.result.now c.first_len-len.result c.first_len-len.ensures.piece c.loop-rest.invariant.1 c.loop-rest.invariant.2
    c.in_ok-extend_from_slice.ensures.items c.pick-turned.ensures

pub returns-clause-ok : goal.returns-clause-ok
returns-clause-ok g c =
    pushed_all (in_table c.args.set.now) c.args.old.now c.args.new.now c.args.text.now c.loop-rest.rest.now c.args.out.now.items c.loop-rest.out.items c.loop-rest.invariant.0
    c.loop-rest.invariant.1 c.loop-rest.invariant.2 (empty_rest c.loop-rest.rest.now c.is_empty.result c.is_empty.ensures c.loop-rest-test.false)
