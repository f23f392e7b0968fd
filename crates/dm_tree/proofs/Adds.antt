-- What an addition does to a list of children, at its last name and above it.
use Rattle.std.proofs.Common.{◌≡◌, ℕ, zero, suc, ◌<◌, cond, List, [], ◌∷◌, ◌++◌, length, get_or, set, Option, Some, None, refl, sym, ap, subst, ◌∙◌, arith}
use Rattle.std.specs.List.{insert}
use Rattle.std.specs.Ordering.{eq_by_cmp}
use Rattle.dm_tree.specs.Paths.{Name, Path}
use Rattle.dm_tree.specs.Trees.{Lines, Entry, Dir, File, HasParent, path_cmp}
use Rattle.dm_tree.specs.Children.{Child, flatten, look, IsRising, IsAt, IsGap}
use Rattle.dm_tree.specs.Walks.{SetsAt}
use Rattle.dm_tree.proofs.Children.{child_at, look_in, find-flatten, child_at-at, child_at-gap, child_at-set, child_at-insert, rising-set, rising-insert, sets_at-child}

abbrev pub dir_child : Name → List Child → Child
dir_child m inner = record { name = m; entry = Dir; under = flatten inner }

abbrev pub leaf_child : Name → Entry → Child
leaf_child m e = record { name = m; entry = e; under = [] }

pub at_name : (n : Name) (ks : List Child) (i : ℕ) (d : Child) → IsAt n ks i → (get_or ks i d).name ≡ n
at_name n [] i d a = absurd a
at_name n (k ∷ ks) zero d a = a
at_name n (k ∷ ks) (suc i) d a = at_name n ks i d a.1

pub set_same : (ks : List Child) (i : ℕ) (k : Child) → k ≡ get_or ks i k → set ks i k ≡ ks
set_same [] i k e = refl
set_same (x ∷ ks) zero k e = ap (λ y. y ∷ ks) e
set_same (x ∷ ks) (suc i) k e = ap (λ y. x ∷ y) (set_same ks i k e)

-- the child of the name is the directory that was opened
pub seen : (n : Name) (ks : List Child) (i : ℕ) (k k' : Child) → IsAt n ks i → k ≡ get_or ks i k → k' ≡ k → child_at n ks ≡ Some k'
seen n ks i k k' a e v = child_at-at n ks i k a ∙ ap Some (sym e ∙ sym v)

-- nothing stands under a file
pub look_file : (m : Name) (ls : Lines) (q : Path) → 0 < length q → look_in (Some (leaf_child m (File ls))) q ≡ None
look_file m ls [] lt = absurd (omega arith)
look_file m ls (n ∷ q) lt = refl

-- what the parent of a path is, seen from the child of its first name
abbrev pub ParentIn : Option Child → Path → Type 0
ParentIn x rest = (q : Path) × (k : Name) × (rest ≡ q ++ k ∷ []) × (look_in x q ≡ Some Dir)

no_parent_none : (rest : Path) → ParentIn None rest → ⊥
no_parent_none rest (q, k, e, d) = cc

no_parent_file : (m : Name) (ls : Lines) (rest : Path) → ParentIn (Some (leaf_child m (File ls))) rest → ⊥
no_parent_file m ls rest (q, k, e, d) = go q d
  where
    go : (q : Path) → look_in (Some (leaf_child m (File ls))) q ≡ Some Dir → ⊥
    go [] d = cc
    go (n ∷ q) d = cc

module _ (ks : List Child) (r : IsRising ks) (n : Name) where
  parent_in : (x : Option Child) → child_at n ks ≡ x → (rest : Path) → 0 < length rest → HasParent (n ∷ rest) (look ks) → ParentIn x rest
  parent_in x e rest lt (q, k, is, d) = go q is d
    where
      go : (q : Path) → n ∷ rest ≡ q ++ k ∷ [] → look ks q ≡ Some Dir → ParentIn x rest
      go [] is d = let none : rest ≡ [] = cc in absurd (omega (arith, ap length none))
      go (m ∷ q) is d =
          let f : n ∷ rest ≡ m ∷ (q ++ k ∷ []) = is in
          let same : m ≡ n = cc in
          (q, k, cc, sym (ap (λ z. look_in z q) e) ∙ ap (λ z. look_in (child_at z ks) q) (sym same) ∙ sym (find-flatten ks r m q) ∙ d)

  pub parent_dir : (m : Name) (inner : List Child) → child_at n ks ≡ Some (dir_child m inner) → (p rest : Path) → p ≡ n ∷ rest → 0 < length rest → HasParent p (look ks) → HasParent rest (look inner)
  parent_dir m inner e p rest is lt h = parent_in (Some (dir_child m inner)) e rest lt (subst (λ x. HasParent x (look ks)) is h)

  pub parent_file : (m : Name) (ls : Lines) → child_at n ks ≡ Some (leaf_child m (File ls)) → (p rest : Path) → p ≡ n ∷ rest → 0 < length rest → HasParent p (look ks) → ⊥
  parent_file m ls e p rest is lt h = no_parent_file m ls rest (parent_in (Some (leaf_child m (File ls))) e rest lt (subst (λ x. HasParent x (look ks)) is h))

  pub parent_absent : child_at n ks ≡ None → (p rest : Path) → p ≡ n ∷ rest → 0 < length rest → HasParent p (look ks) → ⊥
  parent_absent e p rest is lt h = no_parent_none rest (parent_in None e rest lt (subst (λ x. HasParent x (look ks)) is h))

  -- something stands where a child is
  pub child_here : (k : Child) → child_at n ks ≡ Some k → (p rest : Path) → p ≡ n ∷ rest → rest ≡ [] → look ks p ≡ None → ⊥
  child_here k e p rest is none h = let f : Some k.entry ≡ None = sym (ap (look ks) (is ∙ ap (λ x. n ∷ x) none) ∙ find-flatten ks r n [] ∙ ap (λ z. look_in z []) e) ∙ h in cc

  pub sets_dir : (i : ℕ) (m : Name) (inner inner' : List Child) → IsAt n ks i → m ≡ n → child_at n ks ≡ Some (dir_child m inner) → (p : Path) (what : Option Entry) → SetsAt (look inner) (look inner') p what → SetsAt (look ks) (look (set ks i (dir_child m inner'))) (n ∷ p) what
  sets_dir i m inner inner' a same e p what s =
      sets_at-child ks (set ks i (dir_child m inner')) n (Some (dir_child m inner')) p what r (rising-set n ks i (dir_child m inner') r a same) (child_at-set n ks i (dir_child m inner') a same)
      (λ q. s q ∙ ap (λ z. cond (eq_by_cmp path_cmp q p) what (look_in z q)) (sym e))

  pub sets_leaf : (i : ℕ) (e : Entry) → IsGap n ks i → SetsAt (look ks) (look (insert ks i (leaf_child n e))) (n ∷ []) (Some e)
  sets_leaf i e g =
      sets_at-child ks (insert ks i (leaf_child n e)) n (Some (leaf_child n e)) [] (Some e) r (rising-insert n ks i (leaf_child n e) r g refl) (child_at-insert n ks i (leaf_child n e) g refl)
      (λ q. ap (λ z. cond (eq_by_cmp path_cmp q []) (Some e) (look_in z q)) (sym (child_at-gap n ks i r g)))
