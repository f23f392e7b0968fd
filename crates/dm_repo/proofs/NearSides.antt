-- The sides of a merge whose patches stand near.
use Rattle.std.proofs.Common.{◌≡◌, ◌+◌, ℕ, List, [], ◌∷◌, ap}
use Rattle.std.specs.List.{All}
use Rattle.std.proofs.lemmas.List.Elements.{All-nil, All-cons, All-head, All-tail}
use Rattle.dm_tree.specs.Paths.{Path}
use Rattle.dm_named.specs.Patches.{Patch}
use Rattle.dm_repo.specs.Aside.{StandsNear}
use Rattle.dm_repo.specs.Staircases.{Split, nothing, stays, yields}
use Rattle.dm_repo.specs.Squares.{Placed, patches, placed_from, PlacedCommutes}
use Rattle.dm_repo.specs.Trials.{PatchNamesUnder}
use Rattle.dm_repo.proofs.NearSquares.{cells_keep, Near, near_square}

module _ (ps : List Path) where
  pub placed_near : (n : ℕ) (xs : List Patch) → All (StandsNear ps) xs → All (Near ps) (placed_from n xs)
  placed_near n [] h = All-nil (Near ps)
  placed_near n (x ∷ xs) h = All-cons (Near ps) (n, x) (placed_from (n + 1) xs) (All-head (StandsNear ps) x xs h) (placed_near (n + 1) xs (All-tail (StandsNear ps) x xs h))

  -- what is split stays near
  pub split_keeps : {In : Placed → Type 0} {xs front rest : List Placed} → Split PlacedCommutes In xs front rest → All (Near ps) xs → All (Near ps) front × All (Near ps) rest
  split_keeps nothing h = (h, h)
  split_keeps (stays {h = x} {xs} {front} i s) h =
      let a = split_keeps s (All-tail (Near ps) x xs h) in
      (All-cons (Near ps) x front (All-head (Near ps) x xs h) a.0, a.1)
  split_keeps (yields {r} {r'} {xs} {front} {front'} {rest} o s t) h =
      let a = split_keeps s (All-tail (Near ps) r xs h) in
      let b = cells_keep Placed PlacedCommutes (Near ps) (Near ps) (near_square ps) t (All-head (Near ps) r xs h) a.0 in
      (b.0, All-cons (Near ps) r' rest b.1 a.1)

  pub names_of_near : (xs : List Placed) → All (Near ps) xs → All (PatchNamesUnder ps) (patches xs)
  names_of_near [] h = All-nil (PatchNamesUnder ps)
  names_of_near (x ∷ xs) h = All-cons (PatchNamesUnder ps) x.1 (patches xs) (record { each = (All-head (Near ps) x xs h).names }) (names_of_near xs (All-tail (Near ps) x xs h))
