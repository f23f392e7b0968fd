use Rattle.std.proofs.Common.{refl, sym}
use Rattle.std.proofs.lemmas.List.{take_all}
use Rattle.std.specs.FinMap as map
use Rattle.dm_prim.specs.InTurn.{done}
use Rattle.dm_prim.specs.Prims.{prim_of}
use Rattle.dm_repo.specs.Folds.{LeadsShallowly}
use Rattle.dm_repo.proofs.Applying.{faults_there, leads_within, run_step}
use Rattle.dm_repo.proofs.fit.apply_prims.Goals as goal

pub loop-k-init : goal.loop-k-init
loop-k-init g c = λ s e. (s, e, done)

pub returns-in-Err : goal.returns-in-Err
returns-in-Err g c = λ s e.
    let r = c.loop-k.invariant s e in
    faults_there prim_of c.args.patch.now c.prims-prims.result.now c.loop-k.k c.index-prims-k.result c.in-Err.fault c.apply.result c.loop-k.tree c.apply.new.tree (sym c.prims-prims.ensures) c.loop-k-test.true c.index-prims-k.is r.1 r.2 c.in-Err.is c.apply.ensures.change c.apply.ensures.fault

pub loop-k-preserved : goal.loop-k-preserved
loop-k-preserved g c = λ s e.
    let r = c.loop-k.invariant s e in (
      record { map = map.get c.apply.new.tree; lawful = c.tree_is_lawful.ensures.lawful },
      refl,
      run_step prim_of LeadsShallowly c.prims-prims.result.now c.loop-k.k c.index-prims-k.result c.loop-k-test.true c.index-prims-k.is r.2
          (leads_within (prim_of c.index-prims-k.result) c.loop-k.tree c.apply.new.tree c.apply.result c.in_default.field-0 r.0 c.tree_is_lawful.ensures.lawful r.1 c.in_default.is c.apply.ensures.change c.apply.ensures.fault c.tree_is_lawful.ensures.shallow),
    )

pub returns : goal.returns
returns g c = λ s e.
    let r = c.loop-k.invariant s e in
    (r.0, r.1, rw c.prims-prims.ensures at (rw (take_all c.loop-k.k c.prims-prims.result.now c.loop-k-test.false) at r.2))
