-- Maps: what a move is, inverses, and that lawfulness is kept.
use Rattle.std.proofs.Common.{◌≡◌, ◌≢◌, true, false, [], ◌∷◌, ◌++◌, Option, Some, None, ◌⊎◌, inl, inr, refl, sym, ap, ◌∙◌, append_assoc, append-nil}
use Rattle.std.specs.Str.{bytes_eq}
use Rattle.std.specs.Cmp.Lexicographic.{same_text, other_text}
use Rattle.std.proofs.lemmas.Bool.{cases_Bool}
use Rattle.std.proofs.lemmas.List.{append_cancel_left}
use Rattle.dm_tree.proofs.Paths.{swap, swap-left, swap-right, swap-other, Place, in_left, in_right, outside, place, above}
use Rattle.dm_tree.specs.Paths.{Name, Path, Under, Apart}
use Rattle.dm_tree.specs.Trees.{Entry, Dir, Map, HasParent, IsLawful}
use Rattle.dm_prim.specs.Primitives.{AppliesMove}

pub path_dec : (p q : Path) → (p ≡ q) ⊎ (p ≢ q)
path_dec [] [] = inl refl
path_dec [] (n ∷ q) = inr (λ e. cc)
path_dec (m ∷ p) [] = inr (λ e. cc)
path_dec (m ∷ p) (n ∷ q) = go (cases_Bool (bytes_eq m n)) (path_dec p q)
  where
    go : (bytes_eq m n ≡ true) ⊎ (bytes_eq m n ≡ false) → (p ≡ q) ⊎ (p ≢ q) → (m ∷ p ≡ n ∷ q) ⊎ (m ∷ p ≢ n ∷ q)
    go (inl e) (inl h) = let same : m ≡ n = same_text m n (sym e) in inl (cc)
    go (inl e) (inr h) = inr (λ k. h (cc))
    go (inr e) _ = inr (λ k. other_text m n (sym e) (cc))

pub none_or : (o : Option Entry) → (o ≡ None) ⊎ (o ≢ None)
none_or None = inl refl
none_or (Some e) = inr (λ h. cc)

-- the path's own child isn't it
pub child_differs : (p : Path) (n : Name) → p ++ n ∷ [] ≢ p
child_differs p n e = let h : n ∷ [] ≡ [] = append_cancel_left p (n ∷ []) [] (e ∙ sym (append-nil p)) in cc

pub below_absent : (t : Map) → IsLawful t → (r b : Path) → t b ≡ None → t (b ++ r) ≡ None
below_absent t l [] b e = rw (append-nil b) e
below_absent t l (n ∷ r) b e = rw (← append_assoc b (n ∷ []) r) (below_absent t l r (b ++ n ∷ []) (go (none_or (t (b ++ n ∷ [])))))
  where
    go : (t (b ++ n ∷ []) ≡ None) ⊎ (t (b ++ n ∷ []) ≢ None) → t (b ++ n ∷ []) ≡ None
    go (inl h) = h
    go (inr h) = let k : t b ≡ Some Dir = l.parents b n h in cc

-- what lies between q and its child is the child
pub child_below : (c q : Path) (n m : Name) (r s : Path) → c ≡ q ++ m ∷ r → q ++ n ∷ [] ≡ c ++ s → q ++ n ∷ [] ≡ c
child_below c q n m r s f e = go r s f (append_cancel_left q (n ∷ []) (m ∷ (r ++ s)) (rw f at e ∙ append_assoc q (m ∷ r) s))
  where
    go : (r s : Path) → c ≡ q ++ m ∷ r → n ∷ [] ≡ m ∷ (r ++ s) → q ++ n ∷ [] ≡ c
    go [] s f g = let w : n ≡ m = cc in rw (f, w)
    go (x ∷ r) s f g = let k : [] ≡ x ∷ (r ++ s) = cc in cc

-- a swap of a path that is neither of the two keeps its parent
pub swap_child : (a b q : Path) (n : Name) → Apart a b → q ++ n ∷ [] ≢ a → q ++ n ∷ [] ≢ b → swap a b (q ++ n ∷ []) ≡ swap a b q ++ n ∷ []
swap_child a b q n d na nb = go (place a b q)
  where
    under : (c : Path) → (Under q c → ⊥) → q ++ n ∷ [] ≢ c → Under (q ++ n ∷ []) c → ⊥
    under c h k (s, e) = let i = above c q (n ∷ []) s e h in k (child_below c q n i.0 i.1 s i.2 e)

    go : Place a b q → swap a b (q ++ n ∷ []) ≡ swap a b q ++ n ∷ []
    go (in_left s e) = rw (e, swap-left a b s, append_assoc a s (n ∷ []), append_assoc b s (n ∷ [])) (swap-left a b (s ++ n ∷ []))
    go (in_right s e) = rw (e, swap-right a b s d, append_assoc b s (n ∷ []), append_assoc a s (n ∷ [])) (swap-right a b (s ++ n ∷ []) d)
    go (outside h k) = rw (swap-other a b q h k) (swap-other a b (q ++ n ∷ []) (under a h na) (under b k nb))

-- a move, seen as a swap
pub record Swaps (a b : Path) (t t' : Map) : Type 0 where
  pub apart : Apart a b
  pub present : t a ≢ None
  pub absent : t b ≡ None
  pub parent : HasParent b t
  pub is : (p : Path) → t' p ≡ t (swap a b p)

pub swaps_from : (a b : Path) (t t' : Map) → IsLawful t → AppliesMove a b t t' → Swaps a b t t'
swaps_from a b t t' l m = record { apart = d; present = m.0.present; absent = m.0.absent; parent = m.0.parent_is; is = λ p. go p (place a b p) }
  where
    d : Apart a b
    d = record { left = λ u. let e : a ≡ b ++ u.0 = u.1 in m.0.present (rw e (below_absent t l u.0 b m.0.absent)); right = m.0.not_into }

    go : (p : Path) → Place a b p → t' p ≡ t (swap a b p)
    go p (in_left r e) = rw (e, swap-left a b r) (m.1.gone r ∙ sym (below_absent t l r b m.0.absent))
    go p (in_right r e) = rw (e, swap-right a b r d) (m.1.there r)
    go p (outside h k) = rw (swap-other a b p h k) (m.1.elsewhere p h k)

pub moves_from : (a b : Path) (t t' : Map) → IsLawful t → Swaps a b t t' → AppliesMove a b t t'
moves_from a b t t' l m = (
  record { present = m.present; not_into = m.apart.right; parent_is = m.parent; absent = m.absent },
  record {
    there = λ r. m.is (b ++ r) ∙ ap t (swap-right a b r m.apart);
    gone = λ r. m.is (a ++ r) ∙ ap t (swap-left a b r) ∙ below_absent t l r b m.absent;
    elsewhere = λ q h k. m.is q ∙ ap t (swap-other a b q h k);
  },
)
