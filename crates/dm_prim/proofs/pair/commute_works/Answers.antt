use Rattle.std.proofs.Common.{◌∙◌, sym}
use Rattle.dm_tree.proofs.Fronts.{refuted}
use Rattle.dm_prim.specs.Prims.{prim_of}
use Rattle.dm_prim.proofs.TableLemmas.{no_two_paths, change_places}
use Rattle.dm_prim.proofs.pair.commute_works.Goals as goal

pub swapped-requires-clause-change : goal.swapped-requires-clause-change
swapped-requires-clause-change g c =
    λ change. change_places (prim_of c.args.p) (prim_of c.args.q) c.requires.first c.requires.second
    (c.may_change_places-change.ensures.0 change) c.tells_valid.ensures c.tells_valid-2.ensures

pub swapped-requires-clause-stay : goal.swapped-requires-clause-stay
swapped-requires-clause-stay g c =
    λ stay. no_two_paths (prim_of c.args.p) (prim_of c.args.q) c.requires.first c.requires.second
    (λ e. refuted c.if-same.ensures (c.path.ensures ∙ e ∙ sym c.path-2.ensures)) (λ work. stay (c.may_change_places-change.ensures.1 work))
