-- The tops of paths that stand in the order of their names.
use Rattle.std.proofs.Common.{◌≡◌, ℕ, suc, ◌<◌, ◌≤◌, Bool, true, false, cond, List, [], ◌∷◌, ◌++◌, length, get_or, reverse, ◌-◌, ◌⊎◌, inl, inr, refl, sym, ap, subst, ◌∙◌, arith}
use Rattle.std.specs.declared.cmp.Ordering.{Ordering}
use Rattle.std.specs.declared.cmp.Ordering.TheVariants.{Less, Equal, Greater}
use Rattle.std.specs.Ordering.{is_lt, ordering_then, ordering_reverse}
use Rattle.std.specs.Cmp.{IsStrictWeakOrder}
use Rattle.std.specs.Cmp.Lexicographic.{nat_list_cmp_total}
use Rattle.std.specs.List.{All, AllPairs, Contains, dedup_from, dedup}
use Rattle.std.specs.List.Sorted.{IsPermutation, IsSortedBy}
use Rattle.std.proofs.lemmas.List.Elements.{Contains-get_or, Contains-append_right}
use Rattle.std.proofs.lemmas.List.{get_or-reverse, length-reverse}
use Rattle.std.proofs.lemmas.List.Kept.{AllPairs-cons, Contains-from_dedup}
use Rattle.std.proofs.lemmas.List.Sorted.{sorted_far, ranks_by, Contains-permutation, IsPermutation-reverse, IsPermutation-sym}
use Rattle.dm_tree.specs.Paths.{Path, Under, Apart}
use Rattle.dm_tree.specs.Trees.{name_cmp, path_cmp}
use Rattle.dm_tree.specs.Reach.{IsUnder, AreTopsOf}
use Rattle.dm_tree.proofs.Children.{name_self, same_name}
use Rattle.dm_tree.proofs.Paths.{apart_sym, under_dec, under_refl, under_trans}
use Rattle.dm_tree.proofs.ReachLemmas.{in_cons, first_in, none_in}
use Rattle.dm_tree.proofs.Trees.{path_total}

-- p comes before q, or is q
abbrev pub UpTo : Path → Path → Type 0
UpTo p q = is_lt (path_cmp q p) ≡ false

pub by_names : IsStrictWeakOrder (λ (p q : Path). is_lt (path_cmp p q))
by_names = ranks_by path_total (λ p. p)

-- what lies between a path and something under it is under it too
pub between : (f p q : Path) → UpTo f p → UpTo p q → Under q f → Under p f
between [] p q a b u = (p, refl)
between (n ∷ f) [] q a b u = cc
between (n ∷ f) (m ∷ p) [] a b u = let e : [] ≡ n ∷ (f ++ u.0) = u.1 in cc
between (n ∷ f) (m ∷ p) (k ∷ q) a b u = go (name_cmp m n) refl (between f p q)
  where
    e : k ∷ q ≡ n ∷ (f ++ u.0)
    e = u.1

    same : k ≡ n
    same = cc e

    first : (o : Ordering) → name_cmp m n ≡ o → is_lt (ordering_then o (path_cmp p f)) ≡ false
    first o d = subst (λ z. is_lt (ordering_then z (path_cmp p f)) ≡ false) d a

    second : (o : Ordering) → name_cmp n m ≡ o → is_lt (ordering_then o (path_cmp q p)) ≡ false
    second o d = subst (λ z. is_lt (ordering_then z (path_cmp q p)) ≡ false) (ap (λ z. name_cmp z m) same ∙ d) b

    turned : (o : Ordering) → name_cmp m n ≡ o → name_cmp n m ≡ ordering_reverse o
    turned o d = nat_list_cmp_total.antisymm n m ∙ ap ordering_reverse d

    go : (o : Ordering) → name_cmp m n ≡ o → (UpTo f p → UpTo p q → Under q f → Under p f) → Under (m ∷ p) (n ∷ f)
    go Less d ih = let h : true ≡ false = first Less d in absurd (cc)
    go Greater d ih = let h : true ≡ false = second Less (turned Greater d) in absurd (cc)
    go Equal d ih =
        let v : Under p f = ih (first Equal d) (second Equal (turned Equal d)) (u.0, cc e) in
        let is : p ≡ f ++ v.0 = v.1 in
        let name : m ≡ n = same_name m n d in
        (v.0, cc)

-- what is under a path doesn't come before it
pub above_first : (p r : Path) → UpTo p (p ++ r)
above_first [] [] = refl
above_first [] (n ∷ r) = refl
above_first (m ∷ p) r = rw (name_self m) (above_first p r)

pub under_later : (p q : Path) → Under p q → UpTo q p
under_later p q u = subst (UpTo q) (sym u.1) (above_first q u.0)

-- what isn't under p, and doesn't come before it, is apart from it
pub apart_later : (p q : Path) → UpTo p q → (Under q p → ⊥) → Apart p q
apart_later p q a h = record { left = λ u. h (between p q p a (under_later p q u) (under_refl p)); right = h }

abbrev pub AreFrom : Path → List Path → Type 0
AreFrom k [] = Unit {0}
AreFrom k (x ∷ xs) = UpTo k x × AreFrom k xs

-- each comes before all later ones, or is the same
abbrev pub Rise : List Path → Type 0
Rise [] = Unit {0}
Rise (x ∷ xs) = AreFrom x xs × Rise xs

pub from_at : (k : Path) (xs : List Path) → AreFrom k xs → (f : Path) → Contains xs f → UpTo k f
from_at k [] a f c = absurd (none_in f c)
from_at k (x ∷ xs) a f c = elim (in_cons x xs f c) [ inl e ↦ subst (UpTo k) e a.0 | inr d ↦ from_at k xs a.1 f d ]

from_each : (k : Path) (xs : List Path) → ((j : ℕ) (d : Path) → j < length xs → UpTo k (get_or xs j d)) → AreFrom k xs
from_each k [] h = tt
from_each k (x ∷ xs) h = (h 0 x (omega arith), from_each k xs (λ j d lt. h (suc j) d (omega (arith, lt))))

pub rise_each : (xs : List Path) → ((i j : ℕ) (d : Path) → i ≤ j → j < length xs → UpTo (get_or xs i d) (get_or xs j d)) → Rise xs
rise_each [] h = tt
rise_each (x ∷ xs) h = (from_each x xs (λ j d lt. h 0 (suc j) d (omega arith) (omega (arith, lt))), rise_each xs (λ i j d le lt. h (suc i) (suc j) d (omega (arith, le)) (omega (arith, lt))))

abbrev pub says : {P : Type 0} → P ⊎ (P → ⊥) → Bool
says (inl x) = true
says (inr x) = false

-- whether p is at or under a
abbrev pub is_under : Path → Path → Bool
is_under p a = says (under_dec p a)

pub told_under : (p a : Path) (b : Bool) → (b ≡ true → Under p a) → (Under p a → b ≡ true) → b ≡ is_under p a
told_under p a b to from = go b refl (under_dec p a)
  where
    go : (z : Bool) → b ≡ z → (d : Under p a ⊎ (Under p a → ⊥)) → b ≡ says d
    go z e (inl u) = from u
    go true e (inr h) = absurd (h (to e))
    go false e (inr h) = e

pub kept_among : (k : Path) (xs : List Path) (f : Path) → Contains (dedup_from is_under k xs) f → Contains (k ∷ xs) f
kept_among k xs f c = Contains-from_dedup is_under (k ∷ xs) f c

later : (k : Path) (xs : List Path) (f : Path) → Contains xs f → Contains (k ∷ xs) f
later k xs f c = Contains-append_right (k ∷ []) xs f c

-- each path is at or under one that is kept
covers : (k : Path) (xs : List Path) (f : Path) → Contains (k ∷ xs) f → IsUnder (dedup_from is_under k xs) f
covers k [] f c = elim (in_cons k [] f c) [ inl e ↦ record { top = k; among = first_in k []; under = subst (λ z. Under z k) e (under_refl k) } | inr d ↦ absurd (none_in f d) ]
covers k (x ∷ xs) f c = go (under_dec x k) (in_cons k (x ∷ xs) f c) (covers k xs) (covers x xs)
  where
    Covers : Path → List Path → Type 0
    Covers y ys = (g : Path) → Contains (y ∷ ys) g → IsUnder (dedup_from is_under y ys) g

    go : (d : Under x k ⊎ (Under x k → ⊥)) → (k ≡ f) ⊎ Contains (x ∷ xs) f → ((g : Path) → Contains (k ∷ xs) g → IsUnder (dedup_from is_under k xs) g) → ((g : Path) → Contains (x ∷ xs) g → IsUnder (dedup_from is_under x xs) g) → IsUnder (cond (says d) (dedup_from is_under k xs) (k ∷ dedup_from is_under x xs)) f
    go (inl u) (inl e) ik ix = ik f (subst (Contains (k ∷ xs)) e (first_in k xs))
    go (inl u) (inr c) ik ix = elim (in_cons x xs f c) [
      | inl e ↦ let t = ik k (first_in k xs) in record { top = t.top; among = t.among; under = under_trans f k t.top (subst (λ z. Under z k) e u) t.under }
      | inr d ↦ ik f (later k xs f d)
    ]
    go (inr h) (inl e) ik ix = record { top = k; among = first_in k (dedup_from is_under x xs); under = subst (λ z. Under z k) e (under_refl k) }
    go (inr h) (inr c) ik ix = let t = ix f c in record { top = t.top; among = later k (dedup_from is_under x xs) t.top t.among; under = t.under }

abbrev All_apart : Path → List Path → Type 0
All_apart k ys = (f : Path) → Contains ys f → Apart k f

all_of : (k : Path) (ys : List Path) → All_apart k ys → All (Apart k) ys
all_of k ys h = λ j d lt. h (get_or ys j d) (Contains-get_or ys j d lt)

-- none of those that are kept is at or under another one
kept_apart : (k : Path) (xs : List Path) → AreFrom k xs → Rise xs → AllPairs Apart (dedup_from is_under k xs)
kept_apart k [] a r = λ i j d small lt. absurd (omega (arith, small, lt))
kept_apart k (x ∷ xs) a r = go (under_dec x k) (kept_apart k xs a.1 r.1) (kept_apart x xs r.0 r.1)
  where
    go : (d : Under x k ⊎ (Under x k → ⊥)) → AllPairs Apart (dedup_from is_under k xs) → AllPairs Apart (dedup_from is_under x xs) → AllPairs Apart (cond (says d) (dedup_from is_under k xs) (k ∷ dedup_from is_under x xs))
    go (inl u) ik ix = ik
    go (inr h) ik ix =
        AllPairs-cons Apart k (dedup_from is_under x xs)
        (all_of k (dedup_from is_under x xs) (λ f c.
        let d : Contains (x ∷ xs) f = kept_among x xs f c in
        apart_later k f (from_at k (x ∷ xs) a f d) (λ u. h (between k x f a.0 (elim (in_cons x xs f d) [ inl e ↦ subst (UpTo x) e (under_later x x (under_refl x)) | inr e ↦ from_at x xs r.0 f e ]) u))))
        ix

tops_of_row : (ys : List Path) → Rise ys → AreTopsOf ys (dedup is_under ys)
tops_of_row [] r = record { tops = record { pairs = λ i j d small lt. absurd (omega (arith, small, lt)) }; cover = λ f c. absurd (none_in f c); among = λ f c. c }
tops_of_row (k ∷ xs) r = record { tops = record { pairs = kept_apart k xs r.0 r.1 }; cover = covers k xs; among = kept_among k xs }

-- what is left of the paths once they are sorted, and each that is under the last one kept is dropped
pub tops_left : (xs ys zs : List Path) → IsPermutation xs ys → IsSortedBy (λ (p q : Path). is_lt (path_cmp p q)) ys → zs ≡ dedup is_under ys → AreTopsOf xs zs
tops_left xs ys zs moved sorted e = subst (AreTopsOf xs) (sym e) (record { tops = t.tops; cover = λ f c. t.cover f (Contains-permutation xs ys f moved c); among = λ f c. Contains-permutation ys xs f (IsPermutation-sym xs ys moved) (t.among f c) })
  where
    t : AreTopsOf ys (dedup is_under ys)
    t = tops_of_row ys (rise_each ys (λ i j d le lt. sorted_far (λ (p q : Path). is_lt (path_cmp p q)) by_names ys sorted i j d le lt))

-- the same from the last to the first
pub tops_turned : (xs zs ws : List Path) → AreTopsOf xs zs → ws ≡ reverse zs → AreTopsOf xs ws
tops_turned xs zs ws t e = subst (AreTopsOf xs) (sym e) (record {
  tops = record { pairs = λ i j d small lt. pair i j d small (omega (arith, lt, length-reverse zs)) };
  cover = λ f c. let u = t.cover f c in record { top = u.top; among = Contains-permutation zs (reverse zs) u.top (IsPermutation-reverse zs) u.among; under = u.under };
  among = λ f c. t.among f (Contains-permutation (reverse zs) zs f (IsPermutation-sym zs (reverse zs) (IsPermutation-reverse zs)) c);
})
  where
    pair : (i j : ℕ) (d : Path) → i < j → j < length zs → Apart (get_or (reverse zs) i d) (get_or (reverse zs) j d)
    pair i j d small lt =
        let first : get_or (reverse zs) i d ≡ get_or zs (length zs - 1 - i) d = get_or-reverse zs i d (omega arith) in
        let second : get_or (reverse zs) j d ≡ get_or zs (length zs - 1 - j) d = get_or-reverse zs j d lt in
        subst (λ x. Apart x (get_or (reverse zs) j d)) (sym first)
        (subst (λ x. Apart (get_or zs (length zs - 1 - i) d) x) (sym second)
        (apart_sym (t.tops.pairs (length zs - 1 - j) (length zs - 1 - i) d (omega arith) (omega arith))))
