-- Lists that change in steps, each of which takes some elements away and adds some, as sums: a sum knows no order.
use Rattle.std.specs.Prelude.{List, [], ◌∷◌, ◌++◌}
use Rattle.std.specs.List.Sorted.{IsPermutation}

-- what a step takes away, and what it adds
pub record Change (X : Type 0) : Type 0 where
  pub taken : List X
  pub added : List X

-- all that some changes take away
abbrev pub all_taken : {X : Type 0} → List (Change X) → List X
all_taken [] = []
all_taken (c ∷ cs) = c.taken ++ all_taken cs

-- all that they add
abbrev pub all_added : {X : Type 0} → List (Change X) → List X
all_added [] = []
all_added (c ∷ cs) = c.added ++ all_added cs

-- with these changes xs comes to ys: xs with all that they add has the elements of ys with all that they take, each as often
abbrev pub ComesTo : {X : Type 0} → List X → List (Change X) → List X → Type 0
ComesTo xs cs ys = IsPermutation (xs ++ all_added cs) (ys ++ all_taken cs)
