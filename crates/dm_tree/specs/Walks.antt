-- What the private functions say of single steps of a change; no public contract needs these.
use Rattle.std.specs.Prelude.{◌≡◌, ◌≢◌, ℕ, ◌-◌, ◌<◌, ◌≤◌, List, [], ◌∷◌, ◌++◌, take, drop, length, Bool, true, ◌&&◌, cond, nat_le, Option, Some, None}
use Rattle.std.specs.List.{splice}
use Rattle.std.specs.Ordering.{eq_by_cmp}
use Rattle.std.specs.FinMap.{find}
use Rattle.std.specs.declared.cmp.Ordering.TheVariants.{Less}
use Rattle.dm_tree.specs.declared.fault.TreeFault.{TreeFault}
use Rattle.dm_tree.specs.declared.fault.TreeFault.TheVariants.{NoParent, Occupied, LineRange, OldDiffers, NoLines}
use Rattle.dm_tree.specs.declared.listing.Listed.{Listed}
use Rattle.dm_tree.specs.declared.node.Body.{Body}
use Rattle.dm_tree.specs.declared.node.Leaf.{Leaf}
use Rattle.dm_tree.specs.declared.node.Leaf.TheVariants.{Folder, Empty}
use Rattle.dm_tree.specs.Paths.{Path, Under}
use Rattle.dm_tree.specs.Validity.{IsValidPath}
use Rattle.dm_tree.specs.Trees.{Lines, Entry, Dir, File, Map, HasParent, empty_file, path_cmp}
use Rattle.dm_tree.specs.Changes.{InRange, ReplacesLines}
use Rattle.dm_tree.specs.Listings.{kind_of}
use Rattle.dm_tree.specs.Children.{PathEntries}
use Rattle.dm_tree.specs.Nested.{entry_of, under_of}

-- what a new leaf is at its path
abbrev pub leaf_entry : Leaf → Entry
leaf_entry Folder = Dir
leaf_entry Empty = empty_file

-- new answers `what` at p, and elsewhere what old answers
abbrev pub SetsAt : Map → Map → Path → Option Entry → Type 0
SetsAt old new p what = (q : Path) → new q ≡ cond (eq_by_cmp path_cmp q p) what (old q)

-- new has the part at a and inside it, and elsewhere what old has
pub record Grafts (old new : Map) (a : Path) (part : Map) : Type 0 where
  pub inside : (r : Path) → new (a ++ r) ≡ part r
  pub outside : (q : Path) → (Under q a → ⊥) → new q ≡ old q

-- the part with nothing in it
abbrev pub nothing : Map
nothing q = None

-- the part that a node is, seen from its own path
abbrev pub part_of : {A : Type 0} → Body A → Map
part_of b q = find path_cmp q (([], entry_of b) ∷ under_of b)

-- why nothing may be added at p, if that is so
abbrev pub RefusesAdd : Map → Path → Option TreeFault → Type 0
RefusesAdd m p None = HasParent p m × (m p ≡ None)
RefusesAdd m p (Some NoParent) = HasParent p m → ⊥
RefusesAdd m p (Some Occupied) = HasParent p m × (m p ≢ None)
RefusesAdd m p (Some e) = ⊥

-- why the lines may not be edited, if that is so
abbrev pub RefusesEdit : Lines → ℕ → Lines → Lines → Option TreeFault → Type 0
RefusesEdit ls n old new None = (ls' : Lines) × ReplacesLines n old new ls ls'
RefusesEdit ls n old new (Some LineRange) = InRange n (length old) (length ls) → ⊥
RefusesEdit ls n old new (Some OldDiffers) = InRange n (length old) (length ls) × (take (length old) (drop (n - 1) ls) ≢ old)
RefusesEdit ls n old new (Some NoLines) = (ls ≡ old) × (n ≡ 1) × (new ≡ [])
RefusesEdit ls n old new (Some e) = ⊥

-- a file with other lines from place i to before place j
abbrev pub spliced : Option Entry → ℕ → ℕ → Lines → Option Entry
spliced None i j new = None
spliced (Some Dir) i j new = Some Dir
spliced (Some (File ls)) i j new = Some (File (splice ls i j new))

-- it is a file that has these places, and keeps a line
abbrev pub CanSplice : Option Entry → ℕ → ℕ → Lines → Type 0
CanSplice None i j new = ⊥
CanSplice (Some Dir) i j new = ⊥
CanSplice (Some (File ls)) i j new = (i ≤ j) × ((j ≤ length ls) × (0 < length (splice ls i j new)))

-- no path of the rows has more than n names
abbrev pub are_short : ℕ → PathEntries → Bool
are_short n [] = true
are_short n (r ∷ rs) = nat_le (length r.0) n && are_short n rs

-- the listing of a part of a tree whose own path is above
abbrev pub listed : {A : Type 0} → Path → PathEntries → List (Listed A)
listed above [] = []
listed above (r ∷ rs) = record { path = above ++ r.0; kind = kind_of r.1 } ∷ listed above rs

-- the paths that the rows have there may stand in a listing
abbrev pub AreValid : Path → PathEntries → Type 0
AreValid above [] = Unit {0}
AreValid above (r ∷ rs) = IsValidPath (above ++ r.0) × AreValid above rs

-- each path of the rows comes after p
abbrev pub Later : Path → PathEntries → Type 0
Later p [] = Unit {0}
Later p (r ∷ rs) = (path_cmp p r.0 ≡ Less) × Later p rs

-- the paths of the rows rise
abbrev pub InOrder : PathEntries → Type 0
InOrder [] = Unit {0}
InOrder (r ∷ rs) = Later r.0 rs × InOrder rs
