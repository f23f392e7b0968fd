-- Whether one path begins with another, and what is left of it then.
use Rattle.std.proofs.Common.{◌≡◌, ℕ, ◌+◌, ◌-◌, ◌<◌, ◌≤◌, [], ◌∷◌, ◌++◌, take, drop, length, sym, ap, subst, ap₂, ◌∙◌, arith, take-append-drop, append-nil, get_or, Bool, false, IsTrue, ◌↔◌, length-append, length-drop, length-take}
use Rattle.std.proofs.lemmas.List.{take_rest, drop_all, drop_more, get_or-take, get_or_append_left, get_or_default}
use Rattle.std.proofs.lemmas.List.Prefix.{front_rest}
use Rattle.dm_tree.specs.Paths.{Name, Path, Under, Inside, forward}
use Rattle.dm_tree.specs.Validity.{IsValidPath}
use Rattle.dm_tree.proofs.ValidityLemmas.{valid_moved}
use Rattle.dm_tree.proofs.Paths.{forward-under}

pub refuted : {P : Type 0} → (IsTrue false ↔ P) → P → ⊥
refuted h p = let t : IsTrue false = h.1 p in cc

pub begins_all : (p q : Path) (i : ℕ) → i ≡ 0 → drop i (take (length q) p) ≡ drop i q → Under p q
begins_all p q i e h = (drop (length q) p, sym (take-append-drop (length q) p) ∙ ap (λ f. f ++ drop (length q) p) (rw e at h))

pub shorter_never : (p q : Path) → length p < length q → Under p q → ⊥
shorter_never p q l (r, e) = absurd (omega (arith, ap length e, length-append q r))

pub not_longer : (p q : Path) → Under p q → length q ≤ length p
not_longer p q (r, e) = omega (arith, ap length e, length-append q r)

-- all names of a front are passed before the first is looked at
pub begins_none : (p q : Path) → length q ≤ length p → drop (length q) (take (length q) p) ≡ drop (length q) q
begins_none p q l = drop_all (length q) (take (length q) p) (omega (arith, length-take (length q) p)) ∙ sym (drop_all (length q) q (omega arith))

-- where two names differ one path does not begin with the other
pub begins_never : (p q : Path) (j : ℕ) (x y : Name) → j < length q → x ≡ get_or p j x → y ≡ get_or q j y → (x ≡ y → ⊥) → Under p q → ⊥
begins_never p q j x y l a b n (r, e) =
    n (a ∙ ap (λ z. get_or z j x) e ∙ get_or_append_left q r x j l ∙ get_or_default q j x y l ∙ sym b)

-- one name more, going back from i
pub begins_more : (p q : Path) (i : ℕ) (x y : Name) → 0 < i → i ≤ length q → length q ≤ length p → x ≡ get_or p (i - 1) x → y ≡ get_or q (i - 1) y → x ≡ y → drop i (take (length q) p) ≡ drop i q → drop (i - 1) (take (length q) p) ≡ drop (i - 1) q
begins_more p q i x y some l le a b e h =
    let j = i - 1 in
    let next : j + 1 ≡ i = omega arith in
    let here : get_or (take (length q) p) j x ≡ get_or q j y = get_or-take (length q) p j x (omega arith) ∙ sym a ∙ e ∙ b in
    drop_more (take (length q) p) j x (omega (arith, length-take (length q) p))
    ∙ ap₂ (λ z r. z ∷ r) here (ap (λ k. drop k (take (length q) p)) next ∙ h ∙ ap (λ k. drop k q) (sym next))
    ∙ sym (drop_more q j y (omega arith))

pub under_at : {r : Bool} (p p' a a' : Path) → p ≡ p' → a ≡ a' → (IsTrue r ↔ Under p a) → (IsTrue r ↔ Under p' a')
under_at p p' a a' e f h = rw (e, f) at h

pub not_deeper : (xs p : Path) → xs ≡ p → length p ≤ 32 → length xs ≤ 32
not_deeper xs p e l = subst (λ (z : Path). length z ≤ 32) (sym e) l

pub rest_not_deeper : (xs p : Path) (n : ℕ) → xs ≡ p → length p ≤ 32 → length (take (length xs - n) (drop n xs)) ≤ 32
rest_not_deeper xs p n e l = omega (arith, ap length (take_rest xs n), length-drop n xs, ap length e, l)

pub inside_from : (p a : Path) → length a < length p → Under p a → Inside p a
inside_from p a l (r, e) = go r e
  where
    go : (r : Path) → p ≡ a ++ r → Inside p a
    go [] e = let s : length p ≡ length a + 0 = simp length-append at (ap length e) in absurd (omega arith)
    go (n ∷ r) e = (n, r, e)

pub inside_at : {r : Bool} (p p' a a' : Path) → p ≡ p' → a ≡ a' → length a' < length p' → (IsTrue r ↔ Under p a) → (IsTrue r ↔ Inside p' a')
inside_at p p' a a' e f l h = let k = under_at p p' a a' e f h in (λ t. inside_from p' a' l (k.0 t), λ i. k.1 (i.0 ∷ i.1, i.2))

pub same_from : (p a : Path) → length p ≡ length a → Under p a → p ≡ a
same_from p a l (r, e) = go r e
  where
    go : (r : Path) → p ≡ a ++ r → p ≡ a
    go [] e = e ∙ append-nil a
    go (n ∷ r) e = let s : length p ≡ length a + length (n ∷ r) = simp length-append at (ap length e) in absurd (omega arith)

pub same_at : {r : Bool} (p p' a a' : Path) → p ≡ p' → a ≡ a' → length p' ≡ length a' → (IsTrue r ↔ Under p a) → (IsTrue r ↔ (p' ≡ a'))
same_at p p' a a' e f l h = let k = under_at p p' a a' e f h in (λ t. same_from p' a' l (k.0 t), λ i. k.1 ([], i ∙ sym (append-nil a')))

pub moved_on : (p a b r : Path) → p ≡ a ++ r → forward a b p ≡ b ++ r
moved_on p a b r e = rw e (forward-under a b r)

module _ (xs fs ts p a b : Path) (n : ℕ) (ep : xs ≡ p) (ea : fs ≡ a) (eb : ts ≡ b) (en : n ≡ length fs) (u : Under xs fs) where
  pub forward_is : forward a b p ≡ ts ++ drop n xs
  forward_is = moved_on p a b (drop n xs) (sym ep ∙ u.1 ∙ ap (λ z. fs ++ z) (sym (front_rest xs fs u.0 u.1) ∙ ap (λ k. drop k xs) (sym en)) ∙ ap (λ z. z ++ drop n xs) ea) ∙ ap (λ z. z ++ drop n xs) (sym eb)

  pub too_long : (zs : Path) (m : ℕ) → zs ≡ xs → m ≡ length ts → 32 < m + length (take (length zs - n) (drop n zs)) → 32 < length (forward a b p)
  too_long zs m e f h = rw (forward_is, length-append ts (drop n xs), ← f, ← e) (rw (take_rest zs n) at h)

  pub moved_valid : (os ks bs : Path) → os ≡ ks ++ bs → ks ≡ ts → bs ≡ drop n xs → IsValidPath p → IsValidPath b → length ts + length (drop n xs) ≤ 32 → IsValidPath os
  moved_valid os ks bs o k l gp gb le =
      let whole : p ≡ a ++ drop n xs = sym ep ∙ u.1 ∙ ap (λ z. fs ++ z) (sym (front_rest xs fs u.0 u.1) ∙ ap (λ j. drop j xs) (sym en)) ∙ ap (λ z. z ++ drop n xs) ea in
      let is : os ≡ b ++ drop n xs = o ∙ ap₂ (λ x y. x ++ y) (k ∙ eb) l in
      subst IsValidPath (sym is) (valid_moved a b (drop n xs) (subst IsValidPath whole gp) gb (omega (arith, length-append b (drop n xs), ap length eb, le)))

  pub in_place : (zs os ks bs : Path) → zs ≡ xs → os ≡ ks ++ bs → ks ≡ ts → bs ≡ take (length zs - n) (drop n zs) → os ≡ forward a b p
  in_place zs os ks bs e o k l = o ∙ ap₂ (λ x y. x ++ y) k (l ∙ rw (take_rest zs n, e)) ∙ sym forward_is
