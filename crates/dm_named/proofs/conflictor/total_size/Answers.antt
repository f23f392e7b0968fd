use Rattle.std.proofs.Common.{◌∙◌, ap, arith}
use Rattle.std.proofs.lemmas.List.{take_all}
use Rattle.dm_named.specs.Conflictors.{sizes_of}
use Rattle.dm_named.proofs.ConflictorLemmas.{sizes_more, sizes_step}
use Rattle.dm_named.proofs.conflictor.total_size.Goals as goal

pub size-size-requires : goal.size-size-requires
size-size-requires g c = omega (arith, c.ranges.most.fits, sizes_step c.args.originals.now c.loop-original.original-index c.original-item.result c.args.most c.loop-original-test.true c.original-item.is c.requires)

pub overflow_add-size : goal.overflow_add-size
overflow_add-size g c =
    omega (arith, c.ranges.most.fits, c.loop-original.invariant, c.size-size.ensures, sizes_step c.args.originals.now c.loop-original.original-index c.original-item.result c.args.most c.loop-original-test.true c.original-item.is c.requires)

pub loop-original-preserved : goal.loop-original-preserved
loop-original-preserved g c =
    omega (arith, c.loop-original.invariant, c.size-size.ensures, sizes_more c.args.originals.now c.loop-original.original-index c.original-item.result c.loop-original-test.true c.original-item.is)

pub returns : goal.returns
returns g c = c.loop-original.invariant ∙ ap sizes_of (take_all c.loop-original.original-index c.args.originals.now c.loop-original-test.false)
