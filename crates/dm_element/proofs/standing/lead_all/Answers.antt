use Rattle.dm_prim.specs.InTurn.{done}
use Rattle.dm_prim.specs.Prims.{prim_of}
use Rattle.dm_element.specs.Standing.{LeadsWithin}
use Rattle.dm_element.proofs.StandingLemmas.{leads_one, run_more, run_stops, run_all}
use Rattle.dm_element.proofs.standing.lead_all.Goals as goal

pub loop-k-init : goal.loop-k-init
loop-k-init g c = λ s e. (s, e, done)

pub returns-then-not-branch : goal.returns-then-not-branch
returns-then-not-branch g c = λ s e.
    let r = c.loop-k.invariant s e in
    run_stops LeadsWithin prim_of c.args.prims.now c.loop-k.k c.index-prims-k.result c.loop-k-test.true c.index-prims-k.is leads_one r.2 (rw c.if-not-branch.true at (c.in_ok-leads.ensures r.0 r.1))

pub loop-k-preserved : goal.loop-k-preserved
loop-k-preserved g c = λ s e.
    let r = c.loop-k.invariant s e in
    let t = rw c.if-not-branch.false at (c.in_ok-leads.ensures r.0 r.1) in
    (t.0, t.1, run_more LeadsWithin prim_of c.args.prims.now c.loop-k.k c.index-prims-k.result c.loop-k-test.true c.index-prims-k.is {u = t.0} r.2 t.2)

pub returns : goal.returns
returns g c = λ s e.
    let r = c.loop-k.invariant s e in
    (r.0, r.1, run_all LeadsWithin prim_of c.args.prims.now c.loop-k.k c.loop-k-test.false r.2)
