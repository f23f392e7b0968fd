-- What a binary search among rising names finds.
use Rattle.std.proofs.Common.{◌≡◌, ℕ, zero, suc, ◌<◌, ◌≤◌, List, [], ◌∷◌, length, get_or, Result, Ok, Err, IfOk, IfErr, refl, ap, subst, ◌∙◌, arith}
use Rattle.std.specs.declared.cmp.Ordering.TheVariants.{Less, Equal, Greater}
use Rattle.std.specs.Ordering.{ordering_index, ordering_reverse}
use Rattle.std.specs.List.Sorted.{IsSearchInRange, IsBinarySearchResult, IsNonDecreasingBy}
use Rattle.std.specs.Cmp.Lexicographic.{nat_list_cmp_total}
use Rattle.dm_tree.specs.Paths.{Name}
use Rattle.dm_tree.specs.Trees.{name_cmp}
use Rattle.dm_tree.specs.Children.{Child, AllAbove, IsRising, IsAt, IsGap}
use Rattle.dm_tree.proofs.Children.{same_name, name_trans}

above_at : (n : Name) (ks : List Child) (j : ℕ) (d : Child) → AllAbove n ks → j < length ks → name_cmp n (get_or ks j d).name ≡ Less
above_at n [] j d a lt = absurd (omega arith)
above_at n (k ∷ ks) zero d a lt = a.0
above_at n (k ∷ ks) (suc j) d a lt = above_at n ks j d a.1 (omega arith)

-- what is at least Less of a later name: the comparisons with n rise
rank_le : (a b n : Name) → name_cmp a b ≡ Less → ordering_index (name_cmp a n) ≤ ordering_index (name_cmp b n)
rank_le a b n l = elim (name_cmp b n) as (λ o. name_cmp b n ≡ o → ordering_index (name_cmp a n) ≤ ordering_index o) [
  | Less ↦ λ e. rw (name_trans a b n l e) (omega arith)
  | Equal ↦ λ e. rw (subst (λ x. name_cmp a x ≡ Less) (same_name b n e) l) (omega arith)
  | Greater ↦ λ e. elim (name_cmp a n) as (λ o. ordering_index o ≤ 2) [ Less ↦ omega arith | Equal ↦ omega arith | Greater ↦ omega arith ]
] refl

rises : (n : Name) (ks : List Child) → IsRising ks → IsNonDecreasingBy (λ k. ordering_index (name_cmp k.name n)) ks
rises n [] r i j d le lt = absurd (omega arith)
rises n (k ∷ ks) r zero zero d le lt = omega arith
rises n (k ∷ ks) r zero (suc j) d le lt = rank_le k.name (get_or ks j d).name n (above_at k.name ks j d r.0 (omega arith))
rises n (k ∷ ks) r (suc i) zero d le lt = absurd (omega arith)
rises n (k ∷ ks) r (suc i) (suc j) d le lt = rises n ks r.1 i j d (omega arith) (omega arith)

at_from_equal : (n : Name) (ks : List Child) (i : ℕ) (d : Child) → IsRising ks → i < length ks → (get_or ks i d).name ≡ n → IsAt n ks i
at_from_equal n [] i d r lt e = absurd (omega arith)
at_from_equal n (k ∷ ks) zero d r lt e = e
at_from_equal n (k ∷ ks) (suc i) d r lt e = (subst (λ m. name_cmp k.name m ≡ Less) e (above_at k.name ks i d r.0 (omega arith)), at_from_equal n ks i d r.1 (omega arith) e)

gap_from_parts : (n : Name) (ks : List Child) (i : ℕ) → i ≤ length ks → ((j : ℕ) (d : Child) → j < i → name_cmp (get_or ks j d).name n ≡ Less) → ((j : ℕ) (d : Child) → i ≤ j → j < length ks → name_cmp (get_or ks j d).name n ≡ Greater) → IsGap n ks i
gap_from_parts n [] zero le f g = tt
gap_from_parts n [] (suc i) le f g = absurd (omega arith)
gap_from_parts n (k ∷ ks) zero le f g = nat_list_cmp_total.antisymm n k.name ∙ ap ordering_reverse (g zero k (omega arith) (omega arith))
gap_from_parts n (k ∷ ks) (suc i) le f g = (f zero k (omega arith), gap_from_parts n ks i (omega arith) (λ j d lt. f (suc j) d (omega arith)) (λ j d l m. g (suc j) d (omega arith) (omega arith)))

pub searched : (n : Name) (ks : List Child) → IsRising ks → (r : Result ℕ ℕ) → IsSearchInRange r (length ks) → IsBinarySearchResult (λ k. name_cmp k.name n) ks r → IfOk r (IsAt n ks) × IfErr r (IsGap n ks)
searched n ks rising (Ok i) range equal = (found n ks i rising range equal, tt)
  where
    found : (n : Name) (ks : List Child) (i : ℕ) → IsRising ks → i < length ks → ((d : Child) → name_cmp (get_or ks i d).name n ≡ Equal) → IsAt n ks i
    found n [] i r lt e = absurd (omega arith)
    found n (k ∷ ks) i r lt e = at_from_equal n (k ∷ ks) i k r lt (same_name _ n (e k))
searched n ks rising (Err i) range parted =
    let p = parted (rises n ks rising) in
    (tt, gap_from_parts n ks i range (λ j d lt. p.0 j d (omega arith) lt) (λ j d l m. p.1 j d l m))
