-- The rows of rising children, each in order, are in order.
use Rattle.std.proofs.Common.{◌≡◌, Bool, true, false, ◌&&◌, List, [], ◌∷◌, ◌++◌, sym, ap, subst, ◌∙◌}
use Rattle.std.specs.declared.cmp.Ordering.TheVariants.{Less}
use Rattle.std.specs.Ordering.{is_lt, ordering_then}
use Rattle.std.specs.FinMap.{is_sorted}
use Rattle.dm_tree.specs.Paths.{Name, Path}
use Rattle.dm_tree.specs.Trees.{name_cmp, path_cmp}
use Rattle.dm_tree.specs.Children.{PathEntries, Child, below, all, flatten, AllAbove, IsRising}
use Rattle.dm_tree.specs.Walks.{Later, InOrder}
use Rattle.dm_tree.proofs.Children.{name_self}
use lib.Dec.{T}

abbrev pub AllSorted : List Child → Type 0
AllSorted [] = Unit {0}
AllSorted (k ∷ ks) = InOrder (all k) × AllSorted ks

Later-below : (n : Name) (p : Path) (rs : PathEntries) → Later p rs → Later (n ∷ p) (below n rs)
Later-below n p [] l = tt
Later-below n p (r ∷ rs) l = (ap (λ o. ordering_then o (path_cmp p r.0)) (name_self n) ∙ l.0, Later-below n p rs l.1)

pub Later-append : (p : Path) (xs ys : PathEntries) → Later p xs → Later p ys → Later p (xs ++ ys)
Later-append p [] ys a b = b
Later-append p (x ∷ xs) ys a b = (a.0, Later-append p xs ys a.1 b)

Later-other : (n m : Name) (p : Path) (rs : PathEntries) → name_cmp n m ≡ Less → Later (n ∷ p) (below m rs)
Later-other n m p [] l = tt
Later-other n m p (r ∷ rs) l = (ap (λ o. ordering_then o (path_cmp p r.0)) l, Later-other n m p rs l)

Later-flatten : (n : Name) (p : Path) (ks : List Child) → AllAbove n ks → Later (n ∷ p) (flatten ks)
Later-flatten n p [] a = tt
Later-flatten n p (k ∷ ks) a = Later-append (n ∷ p) (below k.name (all k)) (flatten ks) (Later-other n k.name p (all k) a.0) (Later-flatten n p ks a.1)

InOrder-append : (n : Name) (rs : PathEntries) (ks : List Child) → AllAbove n ks → InOrder rs → InOrder (flatten ks) → InOrder (below n rs ++ flatten ks)
InOrder-append n [] ks a s t = t
InOrder-append n (r ∷ rs) ks a s t = (Later-append (n ∷ r.0) (below n rs) (flatten ks) (Later-below n r.0 rs s.0) (Later-flatten n r.0 ks a), InOrder-append n rs ks a s.1 t)

pub sorted_flatten : (ks : List Child) → IsRising ks → AllSorted ks → InOrder (flatten ks)
sorted_flatten [] r s = tt
sorted_flatten (k ∷ ks) r s = InOrder-append k.name (all k) ks r.0 s.0 (sorted_flatten ks r.1 s.1)

-- std's test says the same
abbrev later_all : Path → PathEntries → Bool
later_all x [] = true
later_all x (e ∷ es) = is_lt (path_cmp x e.0) && later_all x es

both : (a b : Bool) → T a → T b → T (a && b)
both true b p q = q
both false b p q = p

later_test : (p : Path) (rs : PathEntries) → Later p rs → T (later_all p rs)
later_test p [] l = tt
later_test p (r ∷ rs) l = both _ _ (subst (λ o. T (is_lt o)) (sym l.0) tt) (later_test p rs l.1)

pub sorted_test : (rs : PathEntries) → InOrder rs → T (is_sorted path_cmp rs)
sorted_test [] s = tt
sorted_test (r ∷ rs) s = both _ _ (later_test r.0 rs s.0) (sorted_test rs s.1)
