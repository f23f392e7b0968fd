-- A merge, turned round: each of its squares by itself.
use Rattle.std.proofs.Common.{List, [], ◌∷◌}
use Rattle.dm_prim.specs.Rectangles.{CellRow, none, next}
use Rattle.dm_named.specs.Patches.{Patch}
use Rattle.dm_repo.specs.Merging.{MergeRectangle, bare, over}
use Rattle.dm_repo.specs.Squares.{Merges}
use Rattle.dm_prim.proofs.LawProofs.{rectangles_turn}
use Rattle.dm_repo.proofs.Staircases.{merge_narrow, merge_along}

module _ (P : Type 0) (Square : P → P → P → P → Type 0) (turn : (x y y' x' : P) → Square x y y' x' → Square y x x' y') where
  row_across : {x x' : P} {ys ys' : List P} → CellRow Square x ys ys' x' → MergeRectangle Square ys (x ∷ []) (x' ∷ []) ys'
  row_across none = bare
  row_across (next {x} {y} {y'} {x1} c s) = over (next (turn x y y' x1 c) none) (row_across s)

  pub merge_turn : {xs ys ys' xs' : List P} → MergeRectangle Square xs ys ys' xs' → MergeRectangle Square ys xs xs' ys'
  merge_turn (bare {new}) = merge_narrow P Square new
  merge_turn (over s g) = merge_along P Square (row_across s) (merge_turn g)

-- two patches that start at one state
pub merges_turn : (r n n' r' : Patch) → Merges r n n' r' → Merges n r r' n'
merges_turn r n n' r' m = record { r_stays = m.n_stays; n_stays = m.r_stays; prims = rectangles_turn r.prims n.prims n'.prims r'.prims m.prims }
