-- What taking out an empty entry leaves.
use Rattle.std.proofs.Common.{◌≡◌, ◌≢◌, ◌<◌, true, false, cond, nat_eq, List, [], ◌∷◌, ◌++◌, length, Option, Some, None, ◌⊎◌, inl, inr, refl, sym, ap, subst, ◌∙◌, arith, append-nil, append_assoc}
use Rattle.std.specs.Ordering.{eq_by_cmp}
use Rattle.std.specs.FinMap.{remove, get-remove, same_map}
use Rattle.std.proofs.lemmas.Bool.{eqb-true}
use Rattle.dm_tree.specs.Paths.{Name, Path, Under}
use Rattle.dm_tree.specs.Validity.{IsValidPath}
use Rattle.dm_tree.specs.Trees.{Lines, Entry, Dir, File, Map, IsLawful, path_cmp}
use Rattle.dm_tree.specs.Children.{Child, look, IsRising, IsTree}
use Rattle.dm_tree.specs.Walks.{SetsAt, Grafts, nothing}
use Rattle.dm_tree.proofs.Children.{name_self}
use Rattle.dm_tree.proofs.Paths.{under_dec}
use Rattle.dm_tree.proofs.Trees.{path_total, path_same, equal_by, tree_of, get-tree_of}
use Rattle.dm_tree.proofs.MoveLemmas.{under_absent, self_equal}

first_inside : (k : Child) (ks : List Child) → look (k ∷ ks) (k.name ∷ []) ≡ Some k.entry
first_inside k ks = rw (name_self k.name) refl

pub some_inside : (ks : List Child) → nat_eq (length ks) 0 ≡ false → (n : Name) × (look ks (n ∷ []) ≢ None)
some_inside [] e = cc
some_inside (k ∷ ks) e = (k.name, λ h. let f : Some k.entry ≡ None = sym (first_inside k ks) ∙ h in cc)

pub none_inside : (ks : List Child) → nat_eq (length ks) 0 ≡ true → (n : Name) → look ks (n ∷ []) ≡ None
none_inside [] e n = refl
none_inside (k ∷ ks) e n = absurd (omega (arith, eqb-true (length (k ∷ ks)) 0 e))

-- a path but the root is its parent and one more name
pub snoc : (n : Name) (q : Path) → (p : Path) × (m : Name) × (n ∷ q ≡ p ++ m ∷ [])
snoc n [] = ([], n, refl)
snoc n (k ∷ q) = let s = snoc k q in (n ∷ s.0, s.1, ap (λ x. n ∷ x) s.2)

module _ (m m' : Map) (p : Path) (l : IsLawful m) (g : Grafts m m' p nothing) where
  -- what the new map answers at q, by whether q is p or inside it
  cases : (q : Path) (P : Option Entry → Type 0) → (Under q p → P None) → ((Under q p → ⊥) → P (m q)) → P (m' q)
  cases q P inside out = go (under_dec q p)
    where
      go : Under q p ⊎ (Under q p → ⊥) → P (m' q)
      go (inl u) = subst P (sym (ap m' u.1 ∙ g.inside u.0)) (inside u)
      go (inr h) = subst P (sym (g.outside q h)) (out h)

  pub removes_one : ((n : Name) → m (p ++ n ∷ []) ≡ None) → SetsAt m m' p None
  removes_one bare q = cases q (λ o. o ≡ cond (eq_by_cmp path_cmp q p) None (m q)) (λ u. here u.0 u.1) (λ h. elim (eq_by_cmp path_cmp q p) as (λ b. eq_by_cmp path_cmp q p ≡ b → m q ≡ cond b None (m q)) [
    | true ↦ λ t. absurd (h ([], equal_by q p t ∙ sym (append-nil p)))
    | false ↦ λ t. refl
  ] refl)
    where
      here : (x : Path) → q ≡ p ++ x → None ≡ cond (eq_by_cmp path_cmp q p) None (m q)
      here [] is = sym (ap (λ t. cond t None (m q)) (ap (λ y. eq_by_cmp path_cmp y p) (is ∙ append-nil p) ∙ self_equal p))
      here (n ∷ r) is =
          let gone : m q ≡ None = ap m (is ∙ sym (append_assoc p (n ∷ []) r)) ∙ under_absent m l (p ++ n ∷ []) (bare n) r in
          elim (eq_by_cmp path_cmp q p) as (λ b. None ≡ cond b None (m q)) [ true ↦ refl | false ↦ sym gone ]

  removes_lawful : p ≢ [] → IsLawful m'
  removes_lawful ne = record {
    root = g.outside [] (off p ne) ∙ l.root;
    parents = λ q n. cases (q ++ n ∷ []) (λ o. o ≢ None → m' q ≡ Some Dir) (λ _ some. absurd (some refl)) (λ h some. g.outside q (λ u. h (deeper q n u)) ∙ l.parents q n some);
    lines = λ q ls. cases q (λ o. o ≡ Some (File ls) → ls ≢ []) (λ _ is. absurd (no_file ls is)) (λ _ is. l.lines q ls is);
  }
    where
      off : (p : Path) → p ≢ [] → Under [] p → ⊥
      off [] ne u = ne refl
      off (n ∷ p) ne u = let f : [] ≡ n ∷ (p ++ u.0) = u.1 in cc

      deeper : (q : Path) (n : Name) → Under q p → Under (q ++ n ∷ []) p
      deeper q n u = (u.0 ++ n ∷ [], ap (λ x. x ++ n ∷ []) u.1 ∙ append_assoc p u.0 (n ∷ []))

      no_file : (ls : Lines) → None ≡ Some (File ls) → ⊥
      no_file ls h = cc

  removes_valid : ((q : Path) → q ≢ [] → m q ≢ None → IsValidPath q) → (q : Path) → q ≢ [] → m' q ≢ None → IsValidPath q
  removes_valid valid q ne = cases q (λ o. o ≢ None → IsValidPath q) (λ _ some. absurd (some refl)) (λ _ some. valid q ne some)

not_root : (p : Path) → 0 < length p → p ≢ []
not_root p lt h = omega (arith, ap length h)

-- after a removal the children are those of a tree
pub removed : (ks new : List Child) (p : Path) → IsTree ks → IsRising new → 0 < length p → Grafts (look ks) (look new) p nothing → IsTree new
removed ks new p t r lt g = record { rising = r; lawful = removes_lawful (look ks) (look new) p t.lawful g (not_root p lt); valid = removes_valid (look ks) (look new) p t.lawful g t.valid }

pub removed_map : (ks new : List Child) (p : Path) → SetsAt (look ks) (look new) p None → tree_of new ≡ remove (tree_of ks) p
removed_map ks new p s =
    same_map path_total path_same (tree_of new) (remove (tree_of ks) p)
    (λ q. ap (λ f. f q) (get-tree_of new) ∙ s q ∙ ap (λ (f : Path → Option Entry). cond (eq_by_cmp path_cmp q p) None (f q)) (sym (get-tree_of ks)) ∙ sym (get-remove path_total (tree_of ks) p q))
