use Rattle.dm_prim.specs.Prims.{prim_of}
use Rattle.dm_prim.proofs.TableLemmas.{not_both_outside, both_stay}
use Rattle.dm_prim.proofs.pair.commute_preference.Goals as goal

pub swapped-requires-clause-change : goal.swapped-requires-clause-change
swapped-requires-clause-change g c =
    λ change. let outside = c.both_move_outside-change.ensures.0 change in
    both_stay (prim_of c.args.p) (prim_of c.args.q) c.requires outside.0 outside.1 c.tells_valid.ensures c.tells_valid-2.ensures

pub swapped-requires-clause-stay : goal.swapped-requires-clause-stay
swapped-requires-clause-stay g c =
    λ stay. not_both_outside (prim_of c.args.p) (prim_of c.args.q) (λ outside. stay (c.both_move_outside-change.ensures.1 outside))
