use Rattle.std.proofs.lemmas.List.{take_all}
use Rattle.dm_repo.proofs.Tries.{adds_more_placed, adds_none}
use Rattle.dm_repo.proofs.trial.add_names_of_placed.Goals as goal

pub loop-k-init : goal.loop-k-init
loop-k-init g c = adds_none c.args.paths.now.items

pub loop-k-preserved : goal.loop-k-preserved
loop-k-preserved g c =
    adds_more_placed c.args.list.now c.loop-k.k c.index-list-k.result c.args.paths.now.items c.loop-k.paths.items c.add_names.new.paths.items c.loop-k-test.true c.index-list-k.is c.loop-k.invariant (rw (c.named.ensures, ← c.index-list-k.is) at c.in_ok-add_names.ensures)

pub returns : goal.returns
returns g c = rw (take_all c.loop-k.k c.args.list.now c.loop-k-test.false) at c.loop-k.invariant
