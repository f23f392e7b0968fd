-- In which order a checkout makes what it makes.
use Rattle.std.specs.Prelude.{◌≡◌, ◌≢◌, ◌⊎◌, List, [], ◌∷◌, ◌++◌}
use Rattle.dm_tree.specs.Paths.{Name, Path}
use Rattle.dm_tree.specs.Trees.{Entry, Dir, Tree}
use Rattle.dm_checkout.specs.Made.{rows}

-- before each row stands that of the directory which it is right inside, unless that is the root
abbrev pub ParentsFirst : Tree → Type 0
ParentsFirst t =
    (before : List (Path × Entry)) (p : Path) (n : Name) (e : Entry) (after : List (Path × Entry)) → rows t ≡ before ++ (p ++ n ∷ [], e) ∷ after
    → (p ≡ []) ⊎ ((sooner : List (Path × Entry)) × (later : List (Path × Entry)) × (before ≡ sooner ++ (p, Dir) ∷ later))

-- no path has two rows
abbrev pub EachOnce : Tree → Type 0
EachOnce t =
    (before : List (Path × Entry)) (a : Path × Entry) (between : List (Path × Entry)) (b : Path × Entry) (after : List (Path × Entry)) → rows t ≡ before ++ a ∷ (between ++ b ∷ after) → a.0 ≢ b.0
