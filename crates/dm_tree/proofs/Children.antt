-- What a list of children in the order of their names holds, and what an edit of it changes.
use Rattle.std.proofs.Common.{◌≡◌, ℕ, zero, suc, Bool, true, false, cond, List, [], ◌∷◌, ◌++◌, get_or, set, Option, Some, None, refl, sym, ap, subst, ◌∙◌}
use Rattle.std.specs.List.{insert, remove}
use Rattle.std.specs.declared.cmp.Ordering.{Ordering}
use Rattle.std.specs.declared.cmp.Ordering.TheVariants.{Less, Equal, Greater}
use Rattle.std.specs.Ordering.{is_eq, eq_by_cmp, ordering_then, ordering_reverse}
use Rattle.std.specs.Cmp.{tied_itself}
use Rattle.std.specs.Cmp.Lexicographic.{nat_list_cmp_total}
use Rattle.std.specs.FinMap.{find, slice_cmp-IsAntisymmetric, nat_cmp-IsAntisymmetric}
use Rattle.dm_tree.specs.Paths.{Name, Path, Under}
use Rattle.dm_tree.specs.Trees.{Entry, name_cmp, path_cmp}
use Rattle.dm_tree.specs.Children.{PathEntries, Child, below, all, flatten, look, AllAbove, IsRising, IsAt, IsGap}
use Rattle.dm_tree.specs.Walks.{Grafts, SetsAt}

pub same_name : (m n : Name) → name_cmp m n ≡ Equal → m ≡ n
same_name = slice_cmp-IsAntisymmetric nat_cmp-IsAntisymmetric

pub name_self : (n : Name) → name_cmp n n ≡ Equal
name_self n = tied_itself nat_list_cmp_total n

pub name_equal : (m n : Name) → eq_by_cmp name_cmp m n ≡ true → m ≡ n
name_equal m n e = same_name m n (is_equal (name_cmp m n) e)
  where
    is_equal : (o : Ordering) → is_eq o ≡ true → o ≡ Equal
    is_equal Less e = cc
    is_equal Equal e = refl
    is_equal Greater e = cc

pub name_trans : (a b c : Name) → name_cmp a b ≡ Less → name_cmp b c ≡ Less → name_cmp a c ≡ Less
name_trans = nat_list_cmp_total.trans

pub name_flip : (a b : Name) → name_cmp a b ≡ Less → name_cmp b a ≡ Greater
name_flip a b e = nat_list_cmp_total.antisymm b a ∙ ap ordering_reverse e

-- the first child of that name
abbrev pub child_at : Name → List Child → Option Child
child_at n [] = None
child_at n (k ∷ ks) = cond (is_eq (name_cmp n k.name)) (Some k) (child_at n ks)

abbrev pub look_in : Option Child → Path → Option Entry
look_in None q = None
look_in (Some k) q = find path_cmp q (all k)

abbrev or_else : Option Entry → Option Entry → Option Entry
or_else None y = y
or_else (Some x) y = Some x

or_else-cond : (b : Bool) (x y : Option Entry) (e : Entry) → or_else (cond b (Some e) x) y ≡ cond b (Some e) (or_else x y)
or_else-cond true x y e = refl
or_else-cond false x y e = refl

find-append : (q : Path) (xs ys : PathEntries) → find path_cmp q (xs ++ ys) ≡ or_else (find path_cmp q xs) (find path_cmp q ys)
find-append q [] ys = refl
find-append q (x ∷ xs) ys = ap (cond (eq_by_cmp path_cmp q x.0) (Some x.1)) (find-append q xs ys) ∙ sym (or_else-cond (eq_by_cmp path_cmp q x.0) (find path_cmp q xs) (find path_cmp q ys) x.1)

either : (b : Bool) (x : Option Entry) → x ≡ cond b x x
either true x = refl
either false x = refl

-- a path that begins with the name is found among the child's rows
find-below : (m n : Name) (q : Path) (rs : PathEntries) → find path_cmp (m ∷ q) (below n rs) ≡ cond (is_eq (name_cmp m n)) (find path_cmp q rs) None
find-below m n q [] = either (is_eq (name_cmp m n)) None
find-below m n q (r ∷ rs) =
    ap (cond (is_eq (ordering_then (name_cmp m n) (path_cmp q r.0))) (Some r.1)) (find-below m n q rs)
    ∙ elim (name_cmp m n) as (λ o. cond (is_eq (ordering_then o (path_cmp q r.0))) (Some r.1) (cond (is_eq o) (find path_cmp q rs) None) ≡ cond (is_eq o) (cond (is_eq (path_cmp q r.0)) (Some r.1) (find path_cmp q rs)) None) [
      | Less ↦ refl
      | Equal ↦ refl
      | Greater ↦ refl
    ]

-- no child of a list above n has the name n
pub child_at-above : (n : Name) (ks : List Child) → AllAbove n ks → child_at n ks ≡ None
child_at-above n [] a = refl
child_at-above n (k ∷ ks) a = rw a.0 (child_at-above n ks a.1)

or_else-none : (x : Option Entry) → or_else x None ≡ x
or_else-none None = refl
or_else-none (Some x) = refl

-- a path under a list of children is looked up in the child of its first name
pub find-flatten : (ks : List Child) → IsRising ks → (n : Name) (q : Path) → find path_cmp (n ∷ q) (flatten ks) ≡ look_in (child_at n ks) q
find-flatten [] r n q = refl
find-flatten (k ∷ ks) r n q =
    find-append (n ∷ q) (below k.name (all k)) (flatten ks)
    ∙ ap (λ x. or_else x (find path_cmp (n ∷ q) (flatten ks))) (find-below n k.name q (all k))
    ∙ ap (or_else (cond (is_eq (name_cmp n k.name)) (find path_cmp q (all k)) None)) (find-flatten ks r.1 n q)
    ∙ elim (name_cmp n k.name) as (λ o. name_cmp n k.name ≡ o → or_else (cond (is_eq o) (find path_cmp q (all k)) None) (look_in (child_at n ks) q) ≡ look_in (cond (is_eq o) (Some k) (child_at n ks)) q) [
      | Less ↦ λ e. refl
      | Equal ↦ λ e.
          let absent : child_at n ks ≡ None = child_at-above n ks (subst (λ m. AllAbove m ks) (sym (same_name n k.name e)) r.0) in
          ap (λ x. or_else (find path_cmp q (all k)) (look_in x q)) absent ∙ or_else-none (find path_cmp q (all k))
      | Greater ↦ λ e. refl
    ] refl

pub find-flatten_root : (ks : List Child) → find path_cmp [] (flatten ks) ≡ None
find-flatten_root [] = refl
find-flatten_root (k ∷ ks) = find-append [] (below k.name (all k)) (flatten ks) ∙ ap (λ x. or_else x (find path_cmp [] (flatten ks))) (root_below k.name (all k)) ∙ find-flatten_root ks
  where
    root_below : (n : Name) (rs : PathEntries) → find path_cmp [] (below n rs) ≡ None
    root_below n [] = refl
    root_below n (r ∷ rs) = root_below n rs

-- the child at its place
pub child_at-at : (n : Name) (ks : List Child) (i : ℕ) (d : Child) → IsAt n ks i → child_at n ks ≡ Some (get_or ks i d)
child_at-at n [] i d a = absurd a
child_at-at n (k ∷ ks) zero d a = rw (a, name_self n) refl
child_at-at n (k ∷ ks) (suc i) d a = rw (name_flip k.name n a.0) (child_at-at n ks i d a.1)

AllAbove-trans : (m n : Name) (ks : List Child) → name_cmp m n ≡ Less → AllAbove n ks → AllAbove m ks
AllAbove-trans m n [] l a = tt
AllAbove-trans m n (k ∷ ks) l a = (name_trans m n k.name l a.0, AllAbove-trans m n ks l a.1)

pub child_at-gap : (n : Name) (ks : List Child) (i : ℕ) → IsRising ks → IsGap n ks i → child_at n ks ≡ None
child_at-gap n [] i r g = refl
child_at-gap n (k ∷ ks) zero r g = rw g (child_at-above n ks (AllAbove-trans n k.name ks g r.0))
child_at-gap n (k ∷ ks) (suc i) r g = rw (name_flip k.name n g.0) (child_at-gap n ks i r.1 g.1)

child_at-cons_cond : (b : Bool) (k' k : Child) (x : Option Child) → cond b (Some k') x ≡ cond b (Some k') (cond b (Some k) x)
child_at-cons_cond true k' k x = refl
child_at-cons_cond false k' k x = refl

-- one name is not both of two names of which one is below the other
apart : (m a b : Name) → name_cmp a b ≡ Less → name_cmp m a ≡ Equal → is_eq (name_cmp m b) ≡ false
apart m a b l e = rw (subst (λ x. name_cmp x b ≡ Less) (sym (same_name m a e)) l) refl

swap_tests : (o : Ordering) (b : Bool) (x y z : Option Child) → (o ≡ Equal → b ≡ false) → cond (is_eq o) x (cond b y z) ≡ cond b y (cond (is_eq o) x z)
swap_tests Less b x y z h = refl
swap_tests Equal b x y z h = rw (h refl) refl
swap_tests Greater b x y z h = refl

-- what `child_at` answers once the child of a name is another, or none
abbrev pub SetsChild : List Child → List Child → Name → Option Child → Type 0
SetsChild ks new n what = (m : Name) → child_at m new ≡ cond (is_eq (name_cmp m n)) what (child_at m ks)

pub child_at-set : (n : Name) (ks : List Child) (i : ℕ) (k' : Child) → IsAt n ks i → k'.name ≡ n → SetsChild ks (set ks i k') n (Some k')
child_at-set n [] i k' a e m = absurd a
child_at-set n (k ∷ ks) zero k' a e m =
    ap (λ x. cond (is_eq (name_cmp m x)) (Some k') (child_at m ks)) e
    ∙ child_at-cons_cond (is_eq (name_cmp m n)) k' k (child_at m ks)
    ∙ ap (λ x. cond (is_eq (name_cmp m n)) (Some k') (cond (is_eq (name_cmp m x)) (Some k) (child_at m ks))) (sym a)
child_at-set n (k ∷ ks) (suc i) k' a e m =
    ap (cond (is_eq (name_cmp m k.name)) (Some k)) (child_at-set n ks i k' a.1 e m)
    ∙ swap_tests (name_cmp m k.name) (is_eq (name_cmp m n)) (Some k) (Some k') (child_at m ks) (apart m k.name n a.0)

pub child_at-insert : (n : Name) (ks : List Child) (i : ℕ) (k' : Child) → IsGap n ks i → k'.name ≡ n → SetsChild ks (insert ks i k') n (Some k')
child_at-insert n [] zero k' g e m = rw e refl
child_at-insert n [] (suc i) k' g e m = absurd g
child_at-insert n (k ∷ ks) zero k' g e m = rw e refl
child_at-insert n (k ∷ ks) (suc i) k' g e m =
    ap (cond (is_eq (name_cmp m k.name)) (Some k)) (child_at-insert n ks i k' g.1 e m)
    ∙ swap_tests (name_cmp m k.name) (is_eq (name_cmp m n)) (Some k) (Some k') (child_at m ks) (apart m k.name n g.0)

AllAbove-set : (m : Name) (ks : List Child) (i : ℕ) (k' : Child) → AllAbove m ks → name_cmp m k'.name ≡ Less → AllAbove m (set ks i k')
AllAbove-set m [] i k' a l = tt
AllAbove-set m (k ∷ ks) zero k' a l = (l, a.1)
AllAbove-set m (k ∷ ks) (suc i) k' a l = (a.0, AllAbove-set m ks i k' a.1 l)

pub rising-set : (n : Name) (ks : List Child) (i : ℕ) (k' : Child) → IsRising ks → IsAt n ks i → k'.name ≡ n → IsRising (set ks i k')
rising-set n [] i k' r a e = absurd a
rising-set n (k ∷ ks) zero k' r a e = (subst (λ x. AllAbove x ks) (a ∙ sym e) r.0, r.1)
rising-set n (k ∷ ks) (suc i) k' r a e = (AllAbove-set k.name ks i k' r.0 (subst (λ x. name_cmp k.name x ≡ Less) (sym e) a.0), rising-set n ks i k' r.1 a.1 e)

AllAbove-insert : (m : Name) (ks : List Child) (i : ℕ) (k' : Child) → AllAbove m ks → name_cmp m k'.name ≡ Less → AllAbove m (insert ks i k')
AllAbove-insert m [] zero k' a l = (l, tt)
AllAbove-insert m [] (suc i) k' a l = (l, tt)
AllAbove-insert m (k ∷ ks) zero k' a l = (l, a)
AllAbove-insert m (k ∷ ks) (suc i) k' a l = (a.0, AllAbove-insert m ks i k' a.1 l)

pub rising-insert : (n : Name) (ks : List Child) (i : ℕ) (k' : Child) → IsRising ks → IsGap n ks i → k'.name ≡ n → IsRising (insert ks i k')
rising-insert n [] zero k' r g e = (tt, tt)
rising-insert n [] (suc i) k' r g e = absurd g
rising-insert n (k ∷ ks) zero k' r g e =
    let l : name_cmp k'.name k.name ≡ Less = subst (λ x. name_cmp x k.name ≡ Less) (sym e) g in
    ((l, AllAbove-trans k'.name k.name ks l r.0), r)
rising-insert n (k ∷ ks) (suc i) k' r g e = (AllAbove-insert k.name ks i k' r.0 (subst (λ x. name_cmp k.name x ≡ Less) (sym e) g.0), rising-insert n ks i k' r.1 g.1 e)

-- a change of one child's rows at q is a change of the parent's at n and q
pub sets_at-child : (ks new : List Child) (n : Name) (k' : Option Child) (p : Path) (what : Option Entry) → IsRising ks → IsRising new → SetsChild ks new n k' → ((q : Path) → look_in k' q ≡ cond (eq_by_cmp path_cmp q p) what (look_in (child_at n ks) q)) → SetsAt (look ks) (look new) (n ∷ p) what
sets_at-child ks new n k' p what r r' s h [] = refl
sets_at-child ks new n k' p what r r' s h (m ∷ q) =
    find-flatten new r' m q ∙ ap (λ x. look_in x q) (s m)
    ∙ elim (name_cmp m n) as (λ o. name_cmp m n ≡ o → look_in (cond (is_eq o) k' (child_at m ks)) q ≡ cond (is_eq (ordering_then o (path_cmp q p))) what (look_in (child_at m ks) q)) [
      | Less ↦ λ e. refl
      | Equal ↦ λ e. h q ∙ ap (λ x. cond (eq_by_cmp path_cmp q p) what (look_in (child_at x ks) q)) (sym (same_name m n e))
      | Greater ↦ λ e. refl
    ] refl
    ∙ ap (cond (eq_by_cmp path_cmp (m ∷ q) (n ∷ p)) what) (sym (find-flatten ks r m q))

AllAbove-remove : (m : Name) (ks : List Child) (i : ℕ) → AllAbove m ks → AllAbove m (remove ks i)
AllAbove-remove m [] zero a = tt
AllAbove-remove m [] (suc i) a = tt
AllAbove-remove m (k ∷ ks) zero a = a.1
AllAbove-remove m (k ∷ ks) (suc i) a = (a.0, AllAbove-remove m ks i a.1)

pub rising-remove : (ks : List Child) (i : ℕ) → IsRising ks → IsRising (remove ks i)
rising-remove [] zero r = tt
rising-remove [] (suc i) r = tt
rising-remove (k ∷ ks) zero r = r.1
rising-remove (k ∷ ks) (suc i) r = (AllAbove-remove k.name ks i r.0, rising-remove ks i r.1)

pub child_at-remove : (n : Name) (ks : List Child) (i : ℕ) → IsRising ks → IsAt n ks i → SetsChild ks (remove ks i) n None
child_at-remove n [] i r a m = absurd a
child_at-remove n (k ∷ ks) zero r a m =
    elim (name_cmp m n) as (λ o. name_cmp m n ≡ o → child_at m ks ≡ cond (is_eq o) None (cond (is_eq o) (Some k) (child_at m ks))) [
      | Less ↦ λ e. refl
      | Equal ↦ λ e. child_at-above m ks (subst (λ x. AllAbove x ks) (a ∙ sym (same_name m n e)) r.0)
      | Greater ↦ λ e. refl
    ] refl
    ∙ ap (λ x. cond (is_eq (name_cmp m n)) None (cond (is_eq (name_cmp m x)) (Some k) (child_at m ks))) (sym a)
child_at-remove n (k ∷ ks) (suc i) r a m =
    ap (cond (is_eq (name_cmp m k.name)) (Some k)) (child_at-remove n ks i r.1 a.1 m)
    ∙ swap_tests (name_cmp m k.name) (is_eq (name_cmp m n)) (Some k) None (child_at m ks) (apart m k.name n a.0)

-- a change of one child's part is a change of the parent's
module _ (ks new : List Child) (n : Name) (k' : Option Child) (p : Path) (part : Path → Option Entry) (r : IsRising ks) (r' : IsRising new) (s : SetsChild ks new n k') where
  pub grafts-child : ((q : Path) → look_in k' (p ++ q) ≡ part q) → ((q : Path) → (Under q p → ⊥) → look_in k' q ≡ look_in (child_at n ks) q) → Grafts (look ks) (look new) (n ∷ p) part
  grafts-child there off = record { inside = inside; outside = outside }
    where
      inside : (q : Path) → look new (n ∷ (p ++ q)) ≡ part q
      inside q = find-flatten new r' n (p ++ q) ∙ ap (λ x. look_in x (p ++ q)) (s n ∙ ap (λ o. cond (is_eq o) k' (child_at n ks)) (name_self n)) ∙ there q

      outside : (q : Path) → (Under q (n ∷ p) → ⊥) → look new q ≡ look ks q
      outside [] h = refl
      outside (m ∷ q) h =
          find-flatten new r' m q ∙ ap (λ x. look_in x q) (s m)
          ∙ elim (name_cmp m n) as (λ o. name_cmp m n ≡ o → look_in (cond (is_eq o) k' (child_at m ks)) q ≡ look_in (child_at m ks) q) [
            | Less ↦ λ e. refl
            | Equal ↦ λ e. off q (λ u. h (below_it m q u e)) ∙ ap (λ x. look_in (child_at x ks) q) (sym (same_name m n e))
            | Greater ↦ λ e. refl
          ] refl
          ∙ sym (find-flatten ks r m q)
        where
          below_it : (m : Name) (q : Path) → Under q p → name_cmp m n ≡ Equal → Under (m ∷ q) (n ∷ p)
          below_it m q u e = (u.0, ap (λ x. x ∷ q) (same_name m n e) ∙ ap (λ x. n ∷ x) u.1)
