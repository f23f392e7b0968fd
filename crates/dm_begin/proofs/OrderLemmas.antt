-- The entries of a tree in the order of their paths.
use Rattle.std.proofs.Common.{◌≡◌, Bool, true, false, ◌&&◌, cond, List, [], ◌∷◌, ◌++◌, refl, sym, ap, ◌∙◌, Option, Some, None}
use Rattle.std.specs.declared.cmp.Ordering.TheVariants.{Less, Equal, Greater}
use Rattle.std.specs.declared.cmp.Ordering.{Ordering}
use Rattle.std.specs.Ordering.{eq_by_cmp, is_lt, is_eq, ordering_reverse}
use Rattle.std.specs.FinMap.{find, is_sorted}
use Rattle.dm_tree.specs.Paths.{Name, Path}
use Rattle.dm_tree.specs.Trees.{Entry, Dir, path_cmp}
use Rattle.dm_tree.specs.Walks.{Later, InOrder}
use Rattle.dm_tree.proofs.Children.{name_self}
use Rattle.dm_tree.proofs.MoveLemmas.{self_equal}
use Rattle.dm_tree.proofs.Trees.{path_total}
use lib.Dec.{T}

abbrev pub Rows : Type 0
Rows = List (Path × Entry)

-- a path comes before what is right inside it
pub before_child : (p : Path) (n : Name) → path_cmp p (p ++ n ∷ []) ≡ Less
before_child [] n = refl
before_child (m ∷ p) n = rw (name_self m) (before_child p n)

-- the test of the order says that the paths rise
first_so : (a b : Bool) → T (a && b) → T a
first_so true b h = tt
first_so false b h = h

second_so : (a b : Bool) → T (a && b) → T b
second_so true b h = h
second_so false b h = absurd h

is_less : (o : Ordering) → T (is_lt o) → o ≡ Less
is_less Less h = refl
is_less Equal h = absurd h
is_less Greater h = absurd h

abbrev rises : Path → Rows → Bool
rises p [] = true
rises p (e ∷ es) = is_lt (path_cmp p e.0) && rises p es

later_of : (p : Path) (es : Rows) → T (rises p es) → Later p es
later_of p [] h = tt
later_of p (e ∷ es) h = (is_less (path_cmp p e.0) (first_so (is_lt (path_cmp p e.0)) (rises p es) h), later_of p es (second_so (is_lt (path_cmp p e.0)) (rises p es) h))

pub in_order : (es : Rows) → T (is_sorted path_cmp es) → InOrder es
in_order [] h = tt
in_order (e ∷ es) h = (later_of e.0 es (first_so (rises e.0 es) (is_sorted path_cmp es) h), in_order es (second_so (rises e.0 es) (is_sorted path_cmp es) h))

pub order_right : (xs ys : Rows) → InOrder (xs ++ ys) → InOrder ys
order_right [] ys o = o
order_right (x ∷ xs) ys o = order_right xs ys o.1

-- what is found in two lists
abbrev or_else : Option Entry → Option Entry → Option Entry
or_else None y = y
or_else (Some x) y = Some x

or_cond : (b : Bool) (x y : Option Entry) (e : Entry) → cond b (Some e) (or_else x y) ≡ or_else (cond b (Some e) x) y
or_cond true x y e = refl
or_cond false x y e = refl

or_none : (x : Option Entry) → or_else x None ≡ x
or_none None = refl
or_none (Some x) = refl

found_in : (q : Path) (xs ys : Rows) → find path_cmp q (xs ++ ys) ≡ or_else (find path_cmp q xs) (find path_cmp q ys)
found_in q [] ys = refl
found_in q (x ∷ xs) ys = ap (cond (eq_by_cmp path_cmp q x.0) (Some x.1)) (found_in q xs ys) ∙ or_cond (eq_by_cmp path_cmp q x.0) (find path_cmp q xs) (find path_cmp q ys) x.1

-- a path before all of the rows isn't among them
none_later : (q : Path) (rs : Rows) → Later q rs → find path_cmp q rs ≡ None
none_later q [] l = refl
none_later q (r ∷ rs) l = ap (λ o. cond (is_eq o) (Some r.1) (find path_cmp q rs)) l.0 ∙ none_later q rs l.1

later_sooner : (q p : Path) (rs : Rows) → path_cmp q p ≡ Less → Later p rs → Later q rs
later_sooner q p [] h l = tt
later_sooner q p (r ∷ rs) h l = (path_total.trans q p r.0 h l.0, later_sooner q p rs h l.1)

later_part : (p : Path) (xs : Rows) (y : Path × Entry) (ys : Rows) → Later p (xs ++ y ∷ ys) → path_cmp p y.0 ≡ Less
later_part p [] y ys l = l.0
later_part p (x ∷ xs) y ys l = later_part p xs y ys l.1

-- nor is a path after all of them
pub none_sooner : (xs : Rows) (y : Path × Entry) (ys : Rows) → InOrder (xs ++ y ∷ ys) → find path_cmp y.0 xs ≡ None
none_sooner [] y ys o = refl
none_sooner (x ∷ xs) y ys o =
    ap (λ o. cond (is_eq o) (Some x.1) (find path_cmp y.0 xs)) (path_total.antisymm y.0 x.0 ∙ ap ordering_reverse (later_part x.0 xs y ys o.0)) ∙ none_sooner xs y ys o.1

-- the row is found
pub found_here : (xs : Rows) (y : Path × Entry) (ys : Rows) → InOrder (xs ++ y ∷ ys) → find path_cmp y.0 (xs ++ y ∷ ys) ≡ Some y.1
found_here xs y ys o =
    found_in y.0 xs (y ∷ ys) ∙ ap (λ x. or_else x (find path_cmp y.0 (y ∷ ys))) (none_sooner xs y ys o)
    ∙ ap (λ b. cond b (Some y.1) (find path_cmp y.0 ys)) (self_equal y.0)

-- what comes before the row is found before it
pub found_sooner : (q : Path) (xs : Rows) (y : Path × Entry) (ys : Rows) → InOrder (xs ++ y ∷ ys) → path_cmp q y.0 ≡ Less → find path_cmp q (xs ++ y ∷ ys) ≡ find path_cmp q xs
found_sooner q xs y ys o h =
    found_in q xs (y ∷ ys)
    ∙ ap (or_else (find path_cmp q xs)) (none_later q (y ∷ ys) (h, later_sooner q y.0 ys h (order_right xs (y ∷ ys) o).0))
    ∙ or_none (find path_cmp q xs)

-- the first of the entries is the root
pub root_first : (es : Rows) → InOrder es → find path_cmp [] es ≡ Some Dir → (rs : Rows) × (es ≡ ([], Dir) ∷ rs)
root_first [] o f = absurd (cc)
root_first (([], e) ∷ rs) o f = let same : e ≡ Dir = cc in (rs, ap (λ x. ([], x) ∷ rs) same)
root_first ((n ∷ q, e) ∷ rs) o f = let none : find path_cmp [] rs ≡ None = none_later [] rs (later_sooner [] (n ∷ q) rs refl o.0) in let clash : None ≡ Some Dir = sym none ∙ f in absurd (cc)
