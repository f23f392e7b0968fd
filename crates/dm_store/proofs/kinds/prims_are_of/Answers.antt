use Rattle.std.proofs.lemmas.List.{take_all}
use Rattle.dm_named.specs.Kinds.{IsOf}
use Rattle.dm_named.proofs.NamedLemmas.{all_more_of}
use Rattle.dm_prim.specs.Prims.{prim_of}
use Rattle.dm_store.proofs.KindLemmas.{not_all}
use Rattle.dm_store.proofs.kinds.prims_are_of.Goals as goal

pub returns-then-not-is_of : goal.returns-then-not-is_of
returns-then-not-is_of c =
    not_all (IsOf c.args.kinds) prim_of c.args.prims.now c.loop-prim.prim-index c.prim-item.result c.loop-prim-test.true c.prim-item.is c.if-not-is_of.ensures

pub loop-prim-preserved : goal.loop-prim-preserved
loop-prim-preserved c =
    all_more_of (IsOf c.args.kinds) prim_of c.args.prims.now c.loop-prim.prim-index c.prim-item.result c.loop-prim-test.true c.prim-item.is c.if-not-is_of.ensures c.loop-prim.invariant

pub returns : goal.returns
returns c = rw (take_all c.loop-prim.prim-index c.args.prims.now c.loop-prim-test.false) at c.loop-prim.invariant
