-- What stands in a row of a tree.
use Rattle.std.proofs.Common.{◌≡◌, ◌<◌, ℕ, ◌+◌, suc, zero, Bool, true, false, ◌&&◌, cond, List, [], ◌∷◌, length, get_or, map, refl, ap, ◌∙◌, Some, arith}
use Rattle.std.proofs.lemmas.List.{get_or-drop, get_or-map, length-drop}
use Rattle.std.specs.declared.cmp.Ordering.TheVariants.{Less, Equal, Greater}
use Rattle.std.specs.declared.cmp.Ordering.{Ordering}
use Rattle.std.specs.Ordering.{eq_by_cmp, is_lt, is_eq, ordering_reverse}
use Rattle.std.specs.FinMap.{entries, get, get-entries, entries_sorted, find, is_sorted}
use Rattle.dm_tree.specs.Paths.{Path}
use Rattle.dm_tree.specs.Listings.{listed_entry}
use Rattle.dm_tree.specs.declared.listing.Listed.{Listed}
use Rattle.dm_tree.specs.Trees.{Entry, Tree, path_cmp}
use Rattle.dm_tree.proofs.MoveLemmas.{self_equal}
use Rattle.dm_tree.proofs.Trees.{path_total}
use Rattle.dm_checkout.specs.Made.{rows}
use lib.Dec.{T}

pub first_so : (a b : Bool) → T (a && b) → T a
first_so true b h = tt
first_so false b h = h

pub second_so : (a b : Bool) → T (a && b) → T b
second_so true b h = h
second_so false b h = absurd h

pub is_less : (o : Ordering) → T (is_lt o) → o ≡ Less
is_less Less h = refl
is_less Equal h = absurd h
is_less Greater h = absurd h

-- the path is before each of these
abbrev pub rises : Path → List (Path × Entry) → Bool
rises p es = elim es as (λ x. Bool) [ [] ↦ true | ◌∷◌ e (es → rest) ↦ is_lt (path_cmp p e.0) && rest ]

pub below_at : (p : Path) (es : List (Path × Entry)) (k : ℕ) (d : Path × Entry) → T (rises p es) → k < length es → path_cmp p (get_or es k d).0 ≡ Less
below_at p [] k d h lt = absurd (omega arith)
below_at p (e ∷ es) zero d h lt = is_less (path_cmp p e.0) (first_so (is_lt (path_cmp p e.0)) (rises p es) h)
below_at p (e ∷ es) (suc k) d h lt = below_at p es k d (second_so (is_lt (path_cmp p e.0)) (rises p es) h) (omega arith)

-- a path after another is not it
pub apart : (p q : Path) → path_cmp p q ≡ Less → eq_by_cmp path_cmp q p ≡ false
apart p q h = ap is_eq (path_total.antisymm q p ∙ ap ordering_reverse h)

find_at : (es : List (Path × Entry)) (k : ℕ) (d : Path × Entry) → T (is_sorted path_cmp es) → k < length es → find path_cmp (get_or es k d).0 es ≡ Some (get_or es k d).1
find_at [] k d h lt = absurd (omega arith)
find_at (e ∷ es) zero d h lt = ap (λ b. cond b (Some e.1) (find path_cmp e.0 es)) (self_equal e.0)
find_at (e ∷ es) (suc k) d h lt =
    let x : Path × Entry = get_or es k d in
    let below : path_cmp e.0 x.0 ≡ Less = below_at e.0 es k d (first_so (rises e.0 es) (is_sorted path_cmp es) h) (omega arith) in
    ap (λ b. cond b (Some e.1) (find path_cmp x.0 es)) (apart e.0 x.0 below) ∙ find_at es k d (second_so (rises e.0 es) (is_sorted path_cmp es) h) (omega arith)

-- a row has what the tree has at its path
pub row_at : (t : Tree) (k : ℕ) (d : Path × Entry) → k < length (rows t) → get t (get_or (rows t) k d).0 ≡ Some (get_or (rows t) k d).1
row_at t k d lt =
    let x : get_or (rows t) k d ≡ get_or (entries t) (1 + k) d = get_or-drop 1 (entries t) k d in
    rw (x, get-entries) (find_at (entries t) (1 + k) d (entries_sorted t) (omega (arith, lt, length-drop 1 (entries t))))

-- the path of the row at a place of the listing
pub listed_path : {A : Type 0} (rs : List (Path × Entry)) (ls : List (Listed A)) (k : ℕ) (d : Path × Entry) (l : Listed A) → ls ≡ map listed_entry rs → k < length rs → get_or ls k l ≡ listed_entry (get_or rs k d)
listed_path rs ls k d l is lt = rw is (get_or-map listed_entry rs k d l lt)
