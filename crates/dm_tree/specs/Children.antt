-- How a directory keeps its children: in the order of their names, each with the rows inside it. For the clauses of private functions and the fields of private types alone.
use Rattle.std.specs.Prelude.{◌≡◌, ◌≢◌, ℕ, zero, suc, List, [], ◌∷◌, ◌++◌, Option, None}
use Rattle.std.specs.FinMap.{find}
use Rattle.std.specs.declared.cmp.Ordering.TheVariants.{Less}
use Rattle.dm_tree.specs.Paths.{Name, Path}
use Rattle.dm_tree.specs.Validity.{IsValidPath}
use Rattle.dm_tree.specs.Trees.{Entry, Dir, IsLawful, name_cmp, path_cmp}

-- paths with their entries
abbrev pub PathEntries : Type 0
PathEntries = List (Path × Entry)

-- what a directory sees of a child: its name, its entry, and the rows inside it
pub record Child : Type 0 where
  pub name : Name
  pub entry : Entry
  pub under : PathEntries

-- the rows once they stand under the name n
abbrev pub below : Name → PathEntries → PathEntries
below n [] = []
below n (r ∷ rs) = (n ∷ r.0, r.1) ∷ below n rs

-- a child's rows, itself first
abbrev pub all : Child → PathEntries
all k = ([], k.entry) ∷ k.under

-- the rows inside a directory with these children
abbrev pub flatten : List Child → PathEntries
flatten [] = []
flatten (k ∷ ks) = below k.name (all k) ++ flatten ks

-- what stands at a path of a directory with these children
abbrev pub look : List Child → Path → Option Entry
look ks q = find path_cmp q (([], Dir) ∷ flatten ks)

-- each child's name is above n
abbrev pub AllAbove : Name → List Child → Type 0
AllAbove n [] = Unit {0}
AllAbove n (k ∷ ks) = (name_cmp n k.name ≡ Less) × AllAbove n ks

-- the names rise, so no name comes twice
abbrev pub IsRising : List Child → Type 0
IsRising [] = Unit {0}
IsRising (k ∷ ks) = AllAbove k.name ks × IsRising ks

-- the child at place i has the name
abbrev pub IsAt : Name → List Child → ℕ → Type 0
IsAt n [] i = ⊥
IsAt n (k ∷ ks) zero = k.name ≡ n
IsAt n (k ∷ ks) (suc i) = (name_cmp k.name n ≡ Less) × IsAt n ks i

-- no child has the name, and one of that name would go to place i
abbrev pub IsGap : Name → List Child → ℕ → Type 0
IsGap n [] zero = Unit {0}
IsGap n [] (suc i) = ⊥
IsGap n (k ∷ ks) zero = name_cmp n k.name ≡ Less
IsGap n (k ∷ ks) (suc i) = (name_cmp k.name n ≡ Less) × IsGap n ks i

-- what is true of the children of a tree's root: `valid` is of each path but the root
pub record IsTree (ks : List Child) : Type 0 where
  pub rising : IsRising ks
  pub lawful : IsLawful (look ks)
  pub valid : (q : Path) → q ≢ [] → look ks q ≢ None → IsValidPath q
