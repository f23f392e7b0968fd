-- What applies is undone by the inverse, and keeps a map lawful.
use Rattle.std.proofs.Common.{◌≡◌, ◌≢◌, [], ◌∷◌, ◌++◌, Option, Some, None, ◌⊎◌, inl, inr, refl, sym, ap, subst, ◌∙◌, append_assoc, append-nil}
use Rattle.std.proofs.lemmas.List.{append_cancel_left, same_from_push}
use Rattle.dm_tree.proofs.Paths.{apart_sym, under_append, under_trans, swap, swap-left, swap-right, swap-other, swap-swap, swap_turn}
use Rattle.dm_prim.proofs.Maps.{path_dec, child_differs, below_absent, swap_child, Swaps, swaps_from, moves_from}
use Rattle.dm_tree.specs.Paths.{Name, Path, Apart}
use Rattle.dm_tree.specs.Trees.{Lines, Entry, Dir, File, Map, HasParent, IsLawful, empty_file}
use Rattle.dm_prim.specs.Primitives.{Work, AddFile, RmFile, AddDir, RmDir, Hunk, Binary, Replace, Prim, At, Move, ChangePref, inv_work, inv, Changes, Around, WorksAt, Applies}
use Rattle.dm_prim.proofs.TurnedLines.{turned_back}

pub snoc : (f : Path) → (f ≡ []) ⊎ ((q : Path) × (n : Name) × (f ≡ q ++ n ∷ []))
snoc [] = inl refl
snoc (n ∷ f) = inr (go (snoc f))
  where
    go : (f ≡ []) ⊎ ((q : Path) × (m : Name) × (f ≡ q ++ m ∷ [])) → (q : Path) × (m : Name) × (n ∷ f ≡ q ++ m ∷ [])
    go (inl e) = ([], n, ap (λ x. n ∷ x) e)
    go (inr (q, m, e)) = (n ∷ q, m, ap (λ x. n ∷ x) e)

pub swap_left : (a b : Path) → swap a b a ≡ b
swap_left a b = let e : swap a b (a ++ []) ≡ b ++ [] = swap-left a b [] in rw (append-nil a, append-nil b) at e

pub swap_right : (a b : Path) → Apart a b → swap a b b ≡ a
swap_right a b d = let e : swap a b (b ++ []) ≡ a ++ [] = swap-right a b [] d in rw (append-nil a, append-nil b) at e

-- a path that is there, but for the root, has its parent
pub parent_of : (t : Map) → IsLawful t → (f : Path) → f ≢ [] → t f ≢ None → HasParent f t
parent_of t l f nr h = go (snoc f)
  where
    go : (f ≡ []) ⊎ ((q : Path) × (n : Name) × (f ≡ q ++ n ∷ [])) → HasParent f t
    go (inl e) = absurd (nr e)
    go (inr (q, n, e)) = (q, n, e, l.parents q n (λ k. h (rw e k)))

-- the parent isn't the path
pub parent_kept : (t u : Map) (f : Path) → ((q : Path) → q ≢ f → u q ≡ t q) → HasParent f t → HasParent f u
parent_kept t u f same (q, n, e, d) = (q, n, e, same q (λ k. child_differs q n (sym e ∙ sym k)) ∙ d)

pub changes_inv : (w : Work) (e e' : Option Entry) → ((ls : Lines) → e ≡ Some (File ls) → ls ≢ []) → Changes w e e' → Changes (inv_work w) e' e
changes_inv AddFile e e' h c = (c.1, c.0)
changes_inv RmFile e e' h c = (c.1, c.0)
changes_inv AddDir e e' h c = (c.1, c.0)
changes_inv RmDir e e' h c = (c.1, c.0)
changes_inv (Hunk l old new) e e' h (ls, ls', is, is', ed) = (ls', ls, is', is, record { front = ed.front; back = ed.back; at = ed.at; before = ed.after; after = ed.before; left = h ls is })
changes_inv (Binary old new) e e' h c = (c.1, c.0, h old c.0)
changes_inv (Replace set old new) e e' h (ls, ls', is, is', t) = (ls', ls, is', is, turned_back set old new ls ls' t (h ls is))

around_inv : (w : Work) (f : Path) (t u : Map) → IsLawful t → IsLawful u → WorksAt f w t u → Around (inv_work w) f u
around_inv AddFile f t u lt lu h = tt
around_inv RmFile f t u lt lu h = parent_kept t u f h.elsewhere (parent_of t lt f (λ e. let x : t [] ≡ Some Dir = lt.root in let y : t f ≡ Some empty_file = h.here.0 in let z : t [] ≡ Some empty_file = rw e at y in cc) (λ e. let y : t f ≡ Some empty_file = h.here.0 in cc))
around_inv AddDir f t u lt lu h = λ n r. h.elsewhere (f ++ n ∷ r) (λ e. let k : n ∷ r ≡ [] = append_cancel_left f (n ∷ r) [] (e ∙ sym (append-nil f)) in cc) ∙ below_absent t lt (n ∷ r) f h.here.0
around_inv RmDir f t u lt lu h = parent_kept t u f h.elsewhere (parent_of t lt f (λ e. let x : u [] ≡ Some Dir = lu.root in let y : u f ≡ None = h.here.1 in let z : u [] ≡ None = rw e at y in cc) (λ e. let y : t f ≡ Some Dir = h.here.0 in cc))
around_inv (Hunk l old new) f t u lt lu h = tt
around_inv (Binary old new) f t u lt lu h = tt
around_inv (Replace set old new) f t u lt lu h = tt

pub swaps_inv : (a b : Path) (t u : Map) → IsLawful t → Swaps a b t u → Swaps b a u t
swaps_inv a b t u l s = record {
  apart = apart_sym s.apart;
  present = λ h. s.present (sym (s.is b ∙ ap t (swap_right a b s.apart)) ∙ h);
  absent = s.is a ∙ ap t (swap_left a b) ∙ s.absent;
  parent = go (parent_of t l a (λ e. s.apart.right (rw e (b, refl))) s.present);
  is = λ p. sym (s.is (swap b a p) ∙ ap t (rw (swap_turn a b (swap b a p) s.apart) (swap-swap b a p (apart_sym s.apart))));
}
  where
    go : HasParent a t → HasParent a u
    go (q, n, e, d) = (
      q,
      n,
      e,
      s.is q ∙ ap t (swap-other a b q
          (λ v. let k : q ≡ a ++ v.0 = v.1 in let m : a ++ (v.0 ++ n ∷ []) ≡ a ++ [] = sym (rw k at e ∙ append_assoc a v.0 (n ∷ [])) ∙ sym (append-nil a) in
          nonempty v.0 n (append_cancel_left a (v.0 ++ n ∷ []) [] m))
          (λ v. s.apart.left (rw e (under_trans (q ++ n ∷ []) q b (under_append q (n ∷ [])) v)))) ∙ d,
    )
      where
        nonempty : (r : Path) (n : Name) → r ++ n ∷ [] ≡ [] → ⊥
        nonempty [] n e = cc
        nonempty (x ∷ r) n e = cc

pub undone : (p : Prim) (t u : Map) → IsLawful t → IsLawful u → Applies p t u → Applies (inv p) u t
undone (At f w) t u lt lu h = record { around = around_inv w f t u lt lu h; here = changes_inv w (t f) (u f) (lt.lines f) h.here; elsewhere = λ q k. sym (h.elsewhere q k) }
undone (Move a b) t u lt lu h = moves_from b a u t lu (swaps_inv a b t u lt (swaps_from a b t u lt h))
undone (ChangePref name old new) t u lt lu h = sym h

-- work is never done at the root
abbrev pub OffRoot : Prim → Type 0
OffRoot (At f w) = f ≢ []
OffRoot (Move a b) = Unit {0}
OffRoot (ChangePref name old new) = Unit {0}

-- the entry after work: its parent where one is owed, its lines
pub present_parent : (w : Work) (f : Path) (t u : Map) → IsLawful t → f ≢ [] → WorksAt f w t u → u f ≢ None → HasParent f t
present_parent AddFile f t u l nr h k = h.around
present_parent RmFile f t u l nr h k = absurd (k h.here.1)
present_parent AddDir f t u l nr h k = h.around
present_parent RmDir f t u l nr h k = absurd (k h.here.1)
present_parent (Hunk l1 old new) f t u l nr h k = parent_of t l f nr (λ e. let y : t f ≡ Some (File h.here.0) = h.here.2 in cc)
present_parent (Binary old new) f t u l nr h k = parent_of t l f nr (λ e. let y : t f ≡ Some (File old) = h.here.0 in cc)
present_parent (Replace set old new) f t u l nr h k = parent_of t l f nr (λ e. let y : t f ≡ Some (File h.here.0) = h.here.2 in cc)

-- a directory on which work was done has nothing in it
pub emptied : (w : Work) (f : Path) (t u : Map) → WorksAt f w t u → t f ≡ Some Dir → (n : Name) → t (f ++ n ∷ []) ≡ None
emptied AddFile f t u h d n = let y : t f ≡ None = h.here.0 in cc
emptied RmFile f t u h d n = let y : t f ≡ Some empty_file = h.here.0 in cc
emptied AddDir f t u h d n = let y : t f ≡ None = h.here.0 in cc
emptied RmDir f t u h d n = h.around n []
emptied (Hunk l1 old new) f t u h d n = let y : t f ≡ Some (File h.here.0) = h.here.2 in cc
emptied (Binary old new) f t u h d n = let y : t f ≡ Some (File old) = h.here.0 in cc
emptied (Replace set old new) f t u h d n = let y : t f ≡ Some (File h.here.0) = h.here.2 in cc

pub lines_after : (w : Work) (f : Path) (t u : Map) → WorksAt f w t u → (ls : Lines) → u f ≡ Some (File ls) → ls ≢ []
lines_after AddFile f t u h ls e z = let y : u f ≡ Some empty_file = h.here.1 in cc
lines_after RmFile f t u h ls e z = let y : u f ≡ None = h.here.1 in cc
lines_after AddDir f t u h ls e z = let y : u f ≡ Some Dir = h.here.1 in cc
lines_after RmDir f t u h ls e z = let y : u f ≡ None = h.here.1 in cc
lines_after (Hunk l1 old new) f t u h ls e z = let y : u f ≡ Some (File h.here.1) = h.here.3 in h.here.4.left (cc)
lines_after (Binary old new) f t u h ls e z = let y : u f ≡ Some (File new) = h.here.1 in h.here.2 (cc)
lines_after (Replace set old new) f t u h ls e z = let y : u f ≡ Some (File h.here.1) = h.here.3 in h.here.4.left (cc)

pub works_kept : (w : Work) (f : Path) (t u : Map) → f ≢ [] → IsLawful t → WorksAt f w t u → IsLawful u
works_kept w f t u nr l h = record {
  root = h.elsewhere [] (λ e. nr (sym e)) ∙ l.root;
  parents = λ p n k. go p n k (path_dec (p ++ n ∷ []) f) (path_dec p f);
  lines = λ p ls e. also p ls e (path_dec p f);
}
  where
    go : (p : Path) (n : Name) → u (p ++ n ∷ []) ≢ None → (p ++ n ∷ [] ≡ f) ⊎ (p ++ n ∷ [] ≢ f) → (p ≡ f) ⊎ (p ≢ f) → u p ≡ Some Dir
    go p n k (inl e) _ = its (present_parent w f t u l nr h (λ z. k (rw e z)))
      where
        its : HasParent f t → u p ≡ Some Dir
        its (q, m, i, d) = let s : (p ≡ q) × (n ≡ m) = same_from_push p q n m (e ∙ i) in
            h.elsewhere p (λ x. child_differs p n (e ∙ sym x)) ∙ rw s.0 d
    go p n k (inr ne) (inl e) = absurd (k (h.elsewhere (p ++ n ∷ []) ne ∙ rw e (emptied w f t u h (rw e at (l.parents p n (λ z. k (h.elsewhere (p ++ n ∷ []) ne ∙ z)))) n)))
    go p n k (inr ne) (inr x) = h.elsewhere p x ∙ l.parents p n (λ z. k (h.elsewhere (p ++ n ∷ []) ne ∙ z))

    also : (p : Path) (ls : Lines) → u p ≡ Some (File ls) → (p ≡ f) ⊎ (p ≢ f) → ls ≢ []
    also p ls e (inl i) = lines_after w f t u h ls (rw i at e)
    also p ls e (inr ne) = l.lines p ls (sym (h.elsewhere p ne) ∙ e)

pub swaps_kept : (a b : Path) (t u : Map) → IsLawful t → Swaps a b t u → IsLawful u
swaps_kept a b t u l s = record {
  root = s.is [] ∙ ap t (swap-other a b [] (λ v. s.apart.right (rw (nil_end a v.0 v.1) (b, refl))) (λ v. s.apart.left (rw (nil_end b v.0 v.1) (a, refl)))) ∙ l.root;
  parents = λ p n k. s.is p ∙ go p n (λ z. k (s.is (p ++ n ∷ []) ∙ z)) (path_dec (p ++ n ∷ []) a) (path_dec (p ++ n ∷ []) b);
  lines = λ p ls e. l.lines (swap a b p) ls (sym (s.is p) ∙ e);
}
  where
    nil_end : (a r : Path) → [] ≡ a ++ r → a ≡ []
    nil_end [] r e = refl
    nil_end (x ∷ a) r e = cc

    go : (p : Path) (n : Name) → t (swap a b (p ++ n ∷ [])) ≢ None → (p ++ n ∷ [] ≡ a) ⊎ (p ++ n ∷ [] ≢ a) → (p ++ n ∷ [] ≡ b) ⊎ (p ++ n ∷ [] ≢ b) → t (swap a b p) ≡ Some Dir
    go p n k (inl e) _ = absurd (k (rw (e, swap_left a b) s.absent))
    go p n k (inr na) (inl e) = its s.parent
      where
        its : HasParent b t → t (swap a b p) ≡ Some Dir
        its (q, m, i, d) = let same : (p ≡ q) × (n ≡ m) = same_from_push p q n m (e ∙ i) in
            ap t (swap-other a b p
            (λ v. s.apart.right (rw (← e) (under_trans (p ++ n ∷ []) p a (under_append p (n ∷ [])) v)))
            (λ v. stays b v.0 (rw v.1 at (sym e))))
            ∙ rw same.0 d
          where
            stays : (b r : Path) → b ≡ (b ++ r) ++ n ∷ [] → ⊥
            stays b r e = let k : r ++ n ∷ [] ≡ [] = append_cancel_left b (r ++ n ∷ []) [] (sym (append_assoc b r (n ∷ [])) ∙ sym e ∙ sym (append-nil b)) in full r k
              where
                full : (r : Path) → r ++ n ∷ [] ≡ [] → ⊥
                full [] e = cc
                full (x ∷ r) e = cc
    go p n k (inr na) (inr nb) = l.parents (swap a b p) n (λ z. k (rw (swap_child a b p n s.apart na nb) z))

pub kept : (p : Prim) (t u : Map) → OffRoot p → IsLawful t → Applies p t u → IsLawful u
kept (At f w) t u g l h = works_kept w f t u g l h
kept (Move a b) t u g l h = swaps_kept a b t u l (swaps_from a b t u l h)
kept (ChangePref name old new) t u g l h = subst IsLawful (sym h) l
