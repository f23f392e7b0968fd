-- The finite map of a tree's children, and what a change of one path does to it.
use Rattle.std.proofs.Common.{◌≡◌, ◌≢◌, true, false, cond, List, [], ◌∷◌, ◌++◌, Option, Some, None, refl, sym, ap, subst, ◌∙◌, arith, length}
use mathlib.Core.Path.{fun_ext}
use Rattle.std.specs.declared.cmp.Ordering.{Ordering}
use Rattle.std.specs.declared.cmp.Ordering.TheVariants.{Less, Equal, Greater}
use Rattle.std.specs.Ordering.{eq_by_cmp, is_eq}
use Rattle.std.specs.Cmp.{IsTotalOrder}
use Rattle.std.specs.Cmp.Lexicographic.{lists_total, nat_list_cmp_total}
use Rattle.std.specs.FinMap.{get, insert, from_entries, get-from_entries, get-insert, same_map, IsAntisymmetric, slice_cmp-IsAntisymmetric, nat_cmp-IsAntisymmetric}
use Rattle.dm_tree.specs.declared.node.Leaf.{Leaf}
use Rattle.dm_tree.specs.declared.node.Leaf.TheVariants.{Folder, Empty}
use Rattle.dm_tree.specs.Paths.{Name, Path}
use Rattle.dm_tree.specs.Validity.{IsValidPath}
use Rattle.dm_tree.specs.Trees.{Lines, Entry, Dir, File, Map, Tree, HasParent, IsLawful, Deep, path_cmp}
use Rattle.dm_tree.specs.Children.{Child, flatten, look, IsRising, IsTree}
use Rattle.dm_tree.specs.Walks.{SetsAt, leaf_entry}
use Rattle.dm_tree.proofs.ValidityLemmas.{valid_parts}

pub path_total : IsTotalOrder path_cmp
path_total = lists_total nat_list_cmp_total

pub path_same : IsAntisymmetric path_cmp
path_same = slice_cmp-IsAntisymmetric (slice_cmp-IsAntisymmetric nat_cmp-IsAntisymmetric)

pub equal_by : (p q : Path) → eq_by_cmp path_cmp p q ≡ true → p ≡ q
equal_by p q e = path_same p q (is_equal (path_cmp p q) e)
  where
    is_equal : (o : Ordering) → is_eq o ≡ true → o ≡ Equal
    is_equal Less e = cc
    is_equal Equal e = refl
    is_equal Greater e = cc

abbrev pub tree_of : List Child → Tree
tree_of ks = from_entries (([], Dir) ∷ flatten ks)

pub get-tree_of : (ks : List Child) → get (tree_of ks) ≡ look ks
get-tree_of ks = fun_ext (λ q. get-from_entries path_total (([], Dir) ∷ flatten ks) q)

pub sets_tree : (ks new : List Child) (p : Path) (e : Entry) → SetsAt (look ks) (look new) p (Some e) → tree_of new ≡ insert (tree_of ks) p e
sets_tree ks new p e s =
    same_map path_total path_same (tree_of new) (insert (tree_of ks) p e)
    (λ q. ap (λ f. f q) (get-tree_of new) ∙ s q ∙ ap (λ (f : Path → Option Entry). cond (eq_by_cmp path_cmp q p) (Some e) (f q)) (sym (get-tree_of ks)) ∙ sym (get-insert path_total (tree_of ks) p e q))

never : (q : Path) (m : Name) → [] ≡ q ++ m ∷ [] → ⊥
never [] m e = cc
never (k ∷ q) m e = cc

-- a path has one parent and one last name
pub snoc_inj : (p q : Path) (n m : Name) → p ++ n ∷ [] ≡ q ++ m ∷ [] → (p ≡ q) × (n ≡ m)
snoc_inj [] [] n m e = (refl, cc)
snoc_inj [] (k ∷ q) n m e = let f : n ∷ [] ≡ k ∷ (q ++ m ∷ []) = e in absurd (never q m cc)
snoc_inj (k ∷ p) [] n m e = let f : k ∷ (p ++ n ∷ []) ≡ m ∷ [] = e in absurd (never p n cc)
snoc_inj (k ∷ p) (j ∷ q) n m e =
    let f : k ∷ (p ++ n ∷ []) ≡ j ∷ (q ++ m ∷ []) = e in
    let s = snoc_inj p q n m cc in
    let same : p ≡ q = s.0 in
    (cc, s.1)

module _ (m m' : Map) (p : Path) (e : Entry) (s : SetsAt m m' p (Some e)) where
  -- what the new map answers at q, by whether q is p
  pub cases_at : (q : Path) (P : Option Entry → Type 0) → (q ≡ p → P (Some e)) → (P (m q)) → P (m' q)
  cases_at q P here there = subst P (sym (s q)) (elim (eq_by_cmp path_cmp q p) as (λ b. eq_by_cmp path_cmp q p ≡ b → P (cond b (Some e) (m q))) [ true ↦ λ t. here (equal_by q p t) | false ↦ λ t. there ] refl)

  kept_at : (q : Path) → m p ≡ None → (x : Entry) → m q ≡ Some x → m' q ≡ Some x
  kept_at q absent x is = s q ∙ elim (eq_by_cmp path_cmp q p) as (λ b. eq_by_cmp path_cmp q p ≡ b → cond b (Some e) (m q) ≡ Some x) [ true ↦ λ t. absurd (apart (sym is ∙ ap m (equal_by q p t) ∙ absent)) | false ↦ λ t. is ] refl
    where
      apart : Some x ≡ None → ⊥
      apart h = cc

  adds_lawful : IsLawful m → HasParent p m → m p ≡ None → ((ls : Lines) → e ≡ File ls → ls ≢ []) → IsLawful m'
  adds_lawful l up absent valid = record {
    root = kept_at [] absent Dir l.root;
    parents = λ q n some. kept_at q absent Dir (cases_at (q ++ n ∷ []) (λ o. o ≢ None → m q ≡ Some Dir) (λ is _. ap m (snoc_inj q up.0 n up.1 (is ∙ up.2)).0 ∙ up.3) (λ h. l.parents q n h) some);
    lines = λ q ls is. cases_at q (λ o. o ≡ Some (File ls) → ls ≢ []) (λ _ h. valid ls (some_inj ls h)) (λ h. l.lines q ls h) is;
  }
    where
      some_inj : (ls : Lines) → Some e ≡ Some (File ls) → e ≡ File ls
      some_inj ls h = cc

  adds_valid : ((q : Path) → q ≢ [] → m q ≢ None → IsValidPath q) → IsValidPath p → (q : Path) → q ≢ [] → m' q ≢ None → IsValidPath q
  adds_valid valid here q = cases_at q (λ o. q ≢ [] → o ≢ None → IsValidPath q) (λ is _ _. subst IsValidPath (sym is) here) (valid q)

-- after an addition the children are those of a tree
pub added : (ks new : List Child) (p : Path) (e : Entry) → IsTree ks → IsValidPath p → ((ls : Lines) → e ≡ File ls → ls ≢ []) → HasParent p (look ks) → look ks p ≡ None → IsRising new → SetsAt (look ks) (look new) p (Some e) → IsTree new
added ks new p e t here valid up absent rising s =
    record { rising = rising; lawful = adds_lawful (look ks) (look new) p e s t.lawful up absent valid; valid = adds_valid (look ks) (look new) p e s t.valid here }

pub fresh : IsTree []
fresh = record { rising = tt; lawful = record { root = refl; parents = up; lines = file }; valid = valid }
  where
    up : (q : Path) (n : Name) → look [] (q ++ n ∷ []) ≢ None → look [] q ≡ Some Dir
    up [] n some = refl
    up (k ∷ q) n some = absurd (some refl)

    file : (q : Path) (ls : Lines) → look [] q ≡ Some (File ls) → ls ≢ []
    file [] ls is = λ _. let f : Some Dir ≡ Some (File ls) = is in cc
    file (n ∷ q) ls is = λ _. let f : None ≡ Some (File ls) = is in cc

    valid : (q : Path) → q ≢ [] → look [] q ≢ None → IsValidPath q
    valid [] ne some = absurd (ne refl)
    valid (n ∷ q) ne some = absurd (some refl)

pub leaf_valid : (l : Leaf) (ls : Lines) → leaf_entry l ≡ File ls → ls ≢ []
leaf_valid Folder ls e = λ _. let f : Dir ≡ File ls = e in cc
leaf_valid Empty ls e = λ none. let f : File ([] ∷ []) ≡ File ls = e in cc

pub not_deep : (ks : List Child) → IsTree ks → Deep (look ks) → ⊥
not_deep ks t (q, deep, some) = let valid = valid_parts q (t.valid q (λ e. omega (arith, ap length e, deep)) some) in omega (arith, valid.not_deep, deep)
