-- Squares without the places of their patches, and squares of a split turned to those of a merge.
use Rattle.std.proofs.Common.{List, sym}
use Rattle.dm_info.specs.PatchInfo.{PatchInfo}
use Rattle.dm_prim.specs.Rectangles.{CellRow, none, next, Rectangle, empty, row}
use Rattle.dm_prim.proofs.LawProofs.{lists_past_inverse}
use Rattle.dm_named.specs.Patches.{Patch}
use Rattle.dm_named.specs.Commuting.{NamedCommutes}
use Rattle.dm_repo.specs.Merging.{MergeRectangle, bare, over}
use Rattle.dm_repo.specs.Squares.{Merges, Placed, patches, PlacedCommutes, PlacedMerges}
use Rattle.dm_repo.specs.Staircases.{Split, nothing, stays, yields}

row_without : {x x' : Placed} {ys ys' : List Placed} → CellRow PlacedCommutes x ys ys' x' → CellRow NamedCommutes x.1 (patches ys) (patches ys') x'.1
row_without none = none
row_without (next c s) = next c.commutes (row_without s)

pub split_without : (In : PatchInfo → Type 0) {xs front rest : List Placed} → Split PlacedCommutes (λ x. In x.1.info) xs front rest → Split NamedCommutes (λ x. In x.info) (patches xs) (patches front) (patches rest)
split_without In nothing = nothing
split_without In (stays i s) = stays i (split_without In s)
split_without In (yields o s t) = yields o (split_without In s) (row_without t)

cells_without : {x x' : Placed} {ys ys' : List Placed} → CellRow PlacedMerges x ys ys' x' → CellRow Merges x.1 (patches ys) (patches ys') x'.1
cells_without none = none
cells_without (next c s) = next c.merges (cells_without s)

pub merge_without : {rest rest' new new' : List Placed} → MergeRectangle PlacedMerges rest new new' rest' → MergeRectangle Merges (patches rest) (patches new) (patches new') (patches rest')
merge_without bare = bare
merge_without (over t g) = over (cells_without t) (merge_without g)

turned : (x y y' x' : Patch) → NamedCommutes x y y' x' → Merges x y' y x'
turned x y y' x' c = record {
  r_stays = c.x_stays;
  n_stays = record { info = sym c.y_stays.info; deps = sym c.y_stays.deps };
  prims = lists_past_inverse x.prims y.prims y'.prims x'.prims c.prims;
}

turned_row : {x x' : Patch} {ys ys' : List Patch} → CellRow NamedCommutes x ys ys' x' → CellRow Merges x ys' ys x'
turned_row none = none
turned_row (next {x} {y} {y'} {x1} c s) = next (turned x y y' x1 c) (turned_row s)

-- patches that passed new ones are what these are merged with
pub turned_all : {xs xs' ys ys' : List Patch} → Rectangle NamedCommutes xs ys ys' xs' → MergeRectangle Merges xs ys' ys xs'
turned_all empty = bare
turned_all (row g s) = over (turned_row s) (turned_all g)
