-- What commutes, is split and is merged keeps its kinds of primitives.
use Rattle.std.proofs.Common.{ℕ, List, [], ◌∷◌}
use Rattle.std.specs.List.{AllByRecursion}
use Rattle.dm_prim.specs.Primitives.{Prim}
use Rattle.dm_prim.specs.Rectangles.{CellRow, none, next, Rectangle, empty, row}
use Rattle.dm_prim.specs.Table.{TableRow, first_above, second_above, hunk_replace, replace_hunk, two_replaces, two_works, work_move, move_work, two_moves, preference_first, preference_second}
use Rattle.dm_prim.specs.Commuting.{Commutes}
use Rattle.dm_named.specs.Kinds.{IsOf, AreOf}
use Rattle.dm_named.specs.declared.limits.Kinds.{Kinds}
use Rattle.dm_named.specs.declared.limits.Kinds.TheVariants.{Six, All}
use Rattle.dm_bundle.specs.Patches.{AreAllOf}
use Rattle.dm_repo.specs.declared.policy.Policy.{Policy}
use Rattle.dm_repo.specs.declared.policy.Policy.TheVariants.{Refuse, Skip}
use Rattle.dm_repo.specs.Staircases.{Split, nothing, stays, yields}
use Rattle.dm_repo.specs.Merging.{MergeRectangle, bare, over}
use Rattle.dm_repo.specs.Sifting.{Sifts, ends, merges, skips, MergesUnder}
use Rattle.dm_repo.specs.Squares.{Placed, placed, patches, PlacedCommutes, PlacedMerges}
use Rattle.dm_repo.specs.Laws.{MergeKeepsKinds}
use Rattle.dm_repo.proofs.Placed.{patches_placed}

-- lists across from each other, where what is across from something in Q is in Q
module _ {P : Type 0} {Cell : P → P → P → P → Type 0} (Q : P → Type 0) (across : (x y y' x' : P) → Cell x y y' x' → Q y → Q y') where
  row_across : {x x' : P} {ys ys' : List P} → CellRow Cell x ys ys' x' → AllByRecursion Q ys → AllByRecursion Q ys'
  row_across none q = q
  row_across (next {x} {y} {y'} {x1} c r) q = (across x y y' x1 c q.0, row_across r q.1)

  merge_across : {rest rest' new new' : List P} → MergeRectangle Cell rest new new' rest' → AllByRecursion Q new → AllByRecursion Q new'
  merge_across bare q = q
  merge_across (over r g) q = merge_across g (row_across r q)

  pub rectangle_across : {xs xs' ys ys' : List P} → Rectangle Cell xs ys ys' xs' → AllByRecursion Q ys → AllByRecursion Q ys'
  rectangle_across empty q = q
  rectangle_across (row g r) q = row_across r (rectangle_across g q)

  module _ (along : (x y y' x' : P) → Cell x y y' x' → Q x → Q x') where
    row_along : {x x' : P} {ys ys' : List P} → CellRow Cell x ys ys' x' → Q x → Q x'
    row_along none q = q
    row_along (next {x} {y} {y'} {x1} c r) q = row_along r (along x y y' x1 c q)

    pub rectangle_along : {xs xs' ys ys' : List P} → Rectangle Cell xs ys ys' xs' → AllByRecursion Q xs → AllByRecursion Q xs'
    rectangle_along empty q = q
    rectangle_along (row g r) q = (row_along r q.0, rectangle_along g q.1)

    split_both : {In : P → Type 0} {xs front rest : List P} → Split Cell In xs front rest → AllByRecursion Q xs → AllByRecursion Q front × AllByRecursion Q rest
    split_both nothing q = (tt, tt)
    split_both (stays i s) q = let k = split_both s q.1 in ((q.0, k.0), k.1)
    split_both (yields o s r) q = let k = split_both s q.1 in (row_across r k.0, (row_along r q.0, k.1))

-- primitives that change places keep their kinds
row_kinds : (kinds : Kinds) {p q q' p' : Prim} → TableRow p q q' p' → (IsOf kinds p → IsOf kinds p') × (IsOf kinds q → IsOf kinds q')
row_kinds All r = (λ k. k, λ k. k)
row_kinds Six (first_above a e) = (λ k. k, λ k. k)
row_kinds Six (second_above a e) = (λ k. k, λ k. k)
row_kinds Six (hunk_replace a b) = (λ k. k, λ k. k)
row_kinds Six (replace_hunk a b) = (λ k. k, λ k. k)
row_kinds Six (two_replaces s) = (λ k. k, λ k. k)
row_kinds Six (two_works w) = (λ k. k, λ k. k)
row_kinds Six (work_move w e) = (λ k. k, λ k. k)
row_kinds Six (move_work w e) = (λ k. k, λ k. k)
row_kinds Six (two_moves m a b c d) = (λ k. k, λ k. k)
row_kinds Six (preference_first o) = (λ k. k, λ k. k)
row_kinds Six (preference_second o) = (λ k. k, λ k. k)

module _ (kinds : Kinds) where
  -- so do patches
  abbrev pub HasKinds : Placed → Type 0
  HasKinds x = AreOf kinds x.1.prims

  pub prims_across : (p q q' p' : Prim) → Commutes p q q' p' → IsOf kinds q → IsOf kinds q'
  prims_across p q q' p' c = (row_kinds kinds c.row).1

  pub prims_along : (p q q' p' : Prim) → Commutes p q q' p' → IsOf kinds p → IsOf kinds p'
  prims_along p q q' p' c = (row_kinds kinds c.row).0

  commuted_across : (x y y' x' : Placed) → PlacedCommutes x y y' x' → HasKinds y → HasKinds y'
  commuted_across x y y' x' c = rectangle_across (IsOf kinds) prims_across c.commutes.prims

  commuted_along : (x y y' x' : Placed) → PlacedCommutes x y y' x' → HasKinds x → HasKinds x'
  commuted_along x y y' x' c = rectangle_along (IsOf kinds) prims_across prims_along c.commutes.prims

  merged_across : (r n n' r' : Placed) → PlacedMerges r n n' r' → HasKinds n → HasKinds n'
  merged_across r n n' r' m = rectangle_across (IsOf kinds) prims_across m.merges.prims

  sift_kinds : {skipped rest new merged left : List Placed} → Sifts skipped rest new merged left → AllByRecursion HasKinds new → AllByRecursion HasKinds merged
  sift_kinds ends k = tt
  sift_kinds (merges o g) k =
      let between = rectangle_across HasKinds commuted_across o.passes_skipped (k.0, tt) in
      ((merge_across HasKinds merged_across o.merges_past between).0, sift_kinds g k.1)
  sift_kinds (skips stuck g) k = sift_kinds g k.1

  under_kinds : (policy : Policy) (rest new merged : List Placed) (count : ℕ) → MergesUnder policy rest new merged count → AllByRecursion HasKinds new → AllByRecursion HasKinds merged
  under_kinds Refuse rest new merged count (m, e) k = merge_across HasKinds merged_across m.1 k
  under_kinds Skip rest new merged count (some, (left, g, e)) k = sift_kinds g k

  -- with and without places
  placed_kinds : (xs : List Placed) → AreAllOf kinds (patches xs) → AllByRecursion HasKinds xs
  placed_kinds [] k = tt
  placed_kinds (x ∷ xs) k = (k.0, placed_kinds xs k.1)

  patch_kinds : (xs : List Placed) → AllByRecursion HasKinds xs → AreAllOf kinds (patches xs)
  patch_kinds [] k = tt
  patch_kinds (x ∷ xs) k = (k.0, patch_kinds xs k.1)

pub merge_keeps_kinds : MergeKeepsKinds
merge_keeps_kinds kinds repo b policy merged skipped of_kinds m =
    let given = placed_kinds kinds (placed b.patches) (rw (patches_placed 0 b.patches) of_kinds) in
    let new = (split_both (HasKinds kinds) (commuted_across kinds) (commuted_along kinds) m.fits.bundle_split.split given).1 in
    rw m.is_merged (patch_kinds kinds m.new' (under_kinds kinds policy m.rest m.new m.new' skipped m.merge new))
