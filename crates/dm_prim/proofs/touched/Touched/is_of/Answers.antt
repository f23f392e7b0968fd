use Rattle.std.proofs.Common.{refl}
use Rattle.dm_prim.specs.Commuting.{IsValidPrim}
use Rattle.dm_prim.specs.Touch.{NamesAmong}
use Rattle.dm_prim.specs.Prims.{prims_of}
use Rattle.dm_prim.proofs.TouchLemmas.{touches_where, touches_among, touches_named, same_truth, beq_same, beq_true, beq_not, beq_differ, all_prims_more, all_prims_at, all_prims}
use Rattle.dm_prim.proofs.touched.Touched.is_of.Goals as goal

pub returns-then-not-names_among : goal.returns-then-not-names_among
returns-then-not-names_among g c =
    rw (← c.self.view_is) (λ f. cc, λ h. absurd (cc (c.if-not-names_among.ensures.1 (all_prims_at (NamesAmong c.as_slice-paths.result.now) c.args.prims.now c.loop-prim.prim-index c.prim-item.result c.loop-prim-test.true c.prim-item.is (rw c.as_slice-paths.ensures.value (touches_among _ _ h))))))

pub loop-prim-preserved : goal.loop-prim-preserved
loop-prim-preserved g c = (
  all_prims_more IsValidPrim c.args.prims.now c.loop-prim.prim-index c.prim-item.result c.loop-prim-test.true c.prim-item.is c.loop-prim.invariant.0 c.tells_valid.ensures,
  all_prims_more (NamesAmong c.as_slice-paths.result.now) c.args.prims.now c.loop-prim.prim-index c.prim-item.result c.loop-prim-test.true c.prim-item.is c.loop-prim.invariant.1 (c.if-not-names_among.ensures.0 refl),
)

pub returns-then-not-are_all_named : goal.returns-then-not-are_all_named
returns-then-not-are_all_named g c =
    rw (← c.self.view_is) (λ f. cc, λ h. absurd (cc (c.if-not-are_all_named.ensures.1 (rw c.as_slice-paths.ensures.value (touches_named _ _ h)))))

pub returns-then-all_move_outside-self : goal.returns-then-all_move_outside-self
returns-then-all_move_outside-self g c =
    let moves = c.self.inside.moves_outside in
    let out = c.all_move_outside.result in
    rw (← c.self.view_is) (λ f. cc, λ h. absurd (beq_differ out moves c.if-all_move_outside-self.true (same_truth out moves c.all_move_outside.ensures h.moves)))

pub returns : goal.returns
returns g c =
    let ps = prims_of c.args.prims.now in
    let paths = c.self.inside.paths.items in
    let moves = c.self.inside.moves_outside in
    let out = c.all_move_outside.result in
    let still = c.self.inside.moves_nothing in
    let work = c.all_move_nothing.result in
    let valid = all_prims IsValidPrim c.args.prims.now c.loop-prim.prim-index c.loop-prim-test.false c.loop-prim.invariant.0 in
    let among = all_prims (NamesAmong c.as_slice-paths.result.now) c.args.prims.now c.loop-prim.prim-index c.loop-prim-test.false c.loop-prim.invariant.1 in
    rw (← c.self.view_is) (
      λ t. touches_where ps paths moves out still work valid (rw c.as_slice-paths.ensures.value at among)
          (rw c.as_slice-paths.ensures.value at (c.if-not-are_all_named.ensures.0 refl)) c.all_move_outside.ensures (beq_not out moves c.if-all_move_outside-self.false) c.all_move_nothing.ensures (beq_same work still t),
      λ h. beq_true work still (same_truth work still c.all_move_nothing.ensures h.works),
    )
