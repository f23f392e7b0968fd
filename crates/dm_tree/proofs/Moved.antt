-- What a rename leaves: the children of a tree.
use Rattle.std.proofs.Common.{◌≡◌, ◌≢◌, ◌≤◌, List, [], ◌∷◌, ◌++◌, length, Option, Some, None, sym, ap, subst, ◌∙◌, arith, append-nil, append_assoc, length-append, refl}
use Rattle.dm_tree.specs.Paths.{Name, Path, Under, Apart}
use Rattle.dm_tree.specs.Validity.{IsValidPath}
use Rattle.dm_tree.specs.Trees.{Lines, Entry, Dir, File, Map, HasParent, IsLawful}
use Rattle.dm_tree.specs.Changes.{MayMove, Renamed}
use Rattle.dm_tree.specs.Children.{Child, IsRising, IsTree, look}
use Rattle.dm_tree.proofs.ValidityLemmas.{valid_moved}
use Rattle.dm_tree.proofs.Paths.{Place, in_left, in_right, outside, place}
use Rattle.dm_tree.proofs.Removes.{snoc}
use Rattle.dm_tree.proofs.MoveLemmas.{may_apart}
use Rattle.dm_tree.proofs.Trees.{snoc_inj}

root_off : (a b : Path) → (Under b a → ⊥) → Under [] a → ⊥
root_off [] b h u = h (b, refl)
root_off (n ∷ a) b h u = let f : [] ≡ n ∷ (a ++ u.0) = u.1 in cc

not_root : (a b r : Path) → (Under b a → ⊥) → a ++ r ≢ []
not_root [] b r h e = h (b, refl)
not_root (n ∷ a) b r h e = let f : n ∷ (a ++ r) ≡ [] = e in cc

deeper : (q p : Path) (n : Name) → Under q p → Under (q ++ n ∷ []) p
deeper q p n u = (u.0 ++ n ∷ [], ap (λ x. x ++ n ∷ []) u.1 ∙ append_assoc p u.0 (n ∷ []))

module _ (m m' : Map) (a b : Path) (l : IsLawful m) (apart : Apart a b) (up : HasParent b m) (ren : Renamed a b m m') where
  -- what the new map answers at q, by where q lies
  cases : (q : Path) (P : Option Entry → Type 0) → ((r : Path) → q ≡ b ++ r → P (m (a ++ r))) → P None → ((Under q a → ⊥) → (Under q b → ⊥) → P (m q)) → P (m' q)
  cases q P moved gone off = go (place a b q)
    where
      go : Place a b q → P (m' q)
      go (in_left r e) = subst P (sym (ap m' e ∙ ren.gone r)) gone
      go (in_right r e) = subst P (sym (ap m' e ∙ ren.there r)) (moved r e)
      go (outside h k) = subst P (sym (ren.elsewhere q h k)) (off h k)

  at_top : (q : Path) (n : Name) → q ++ n ∷ [] ≡ b → m' q ≡ Some Dir
  at_top q n e = ren.elsewhere q (λ u. apart.right (subst (λ x. Under x a) e (deeper q a n u))) (λ u. too_long u.0 u.1) ∙ ap m (snoc_inj q up.0 n up.1 (e ∙ up.2)).0 ∙ up.3
    where
      too_long : (r : Path) → q ≡ b ++ r → ⊥
      too_long r is = omega (arith, ap length is, length-append b r, ap length e, length-append q (n ∷ []))

  inside : (q : Path) (n : Name) (r : Path) → q ++ n ∷ [] ≡ b ++ r → m (a ++ r) ≢ None → m' q ≡ Some Dir
  inside q n [] e some = at_top q n (e ∙ append-nil b)
  inside q n (k ∷ r) e some =
      let s = snoc k r in
      let own : q ≡ b ++ s.0 = (snoc_inj q (b ++ s.0) n s.1 (e ∙ ap (λ x. b ++ x) s.2 ∙ sym (append_assoc b s.0 (s.1 ∷ [])))).0 in
      let there : m ((a ++ s.0) ++ s.1 ∷ []) ≢ None = subst (λ x. m x ≢ None) (ap (λ x. a ++ x) s.2 ∙ sym (append_assoc a s.0 (s.1 ∷ []))) some in
      ap m' own ∙ ren.there s.0 ∙ l.parents (a ++ s.0) s.1 there

  pub moved_lawful : IsLawful m'
  moved_lawful = record {
    root = ren.elsewhere [] (root_off a b apart.right) (root_off b a apart.left) ∙ l.root;
    parents = λ q n. cases (q ++ n ∷ []) (λ o. o ≢ None → m' q ≡ Some Dir) (λ r e some. inside q n r e some) (λ some. absurd (some refl)) (λ h k some. ren.elsewhere q (λ u. h (deeper q a n u)) (λ u. k (deeper q b n u)) ∙ l.parents q n some);
    lines = λ q ls. cases q (λ o. o ≡ Some (File ls) → ls ≢ []) (λ r e is. l.lines (a ++ r) ls is) (λ is. absurd (no_file ls is)) (λ h k is. l.lines q ls is);
  }
    where
      no_file : (ls : Lines) → None ≡ Some (File ls) → ⊥
      no_file ls h = cc

  pub moved_names : ((q : Path) → q ≢ [] → m q ≢ None → IsValidPath q) → IsValidPath b → ((r : Path) → m (a ++ r) ≢ None → length (b ++ r) ≤ 32) → (q : Path) → q ≢ [] → m' q ≢ None → IsValidPath q
  moved_names valid here fits q ne = cases q (λ o. o ≢ None → IsValidPath q) (λ r e some. subst IsValidPath (sym e) (valid_moved a b r (valid (a ++ r) (not_root a b r apart.right) some) here (fits r some))) (λ some. absurd (some refl)) (λ h k some. valid q ne some)

-- after a rename, done or refused, the children are those of a tree
pub moved_tree : (ks new : List Child) (a b : Path) → IsTree ks → IsRising new → MayMove (look ks) a b → IsValidPath b → ((r : Path) → look ks (a ++ r) ≢ None → length (b ++ r) ≤ 32) → Renamed a b (look ks) (look new) → IsTree new
moved_tree ks new a b t rising may valid fits ren =
    let apart = may_apart (look ks) t.lawful a b may in
    record {
      rising = rising;
      lawful = moved_lawful (look ks) (look new) a b t.lawful apart may.parent_is ren;
      valid = moved_names (look ks) (look new) a b t.lawful apart may.parent_is ren t.valid valid fits;
    }
