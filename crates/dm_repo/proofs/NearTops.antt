-- Sorted tops, and where a path stands among them.
use Rattle.std.proofs.Common.{◌≡◌, ℕ, zero, suc, ◌+◌, ◌-◌, ◌<◌, ◌≤◌, Bool, true, false, List, [], ◌∷◌, length, get_or, reverse, ◌⊎◌, inl, inr, refl, sym, ap, subst, ◌∙◌, arith, cond}
use Rattle.std.specs.Ordering.{is_lt}
use Rattle.std.specs.List.{All, AllPairs, Contains, dedup_from, dedup}
use Rattle.std.specs.List.Sorted.{IsPermutation, IsSortedBy, IsPartitionPoint, IsPartitionedBy}
use Rattle.std.proofs.lemmas.Bool.{cases_lt}
use Rattle.std.proofs.lemmas.List.Elements.{Contains-get_or}
use Rattle.std.proofs.lemmas.List.{get_or-reverse, length-reverse}
use Rattle.std.proofs.lemmas.List.Kept.{AllPairs-cons}
use Rattle.std.proofs.lemmas.List.Sorted.{sorted_far}
use Rattle.dm_tree.specs.Paths.{Path, Under, Apart}
use Rattle.dm_tree.specs.Trees.{path_cmp}
use Rattle.dm_tree.specs.Reach.{AreTopsOf}
use Rattle.dm_tree.proofs.Paths.{under_dec, under_refl}
use Rattle.dm_prim.specs.Touch.{IsApartFrom}
use Rattle.dm_repo.specs.Nearby.{IsNotBefore, AreSortedTops}
use Rattle.dm_repo.specs.Neighbours.{IsNotUnderAt, ContainsNotBefore}
use Rattle.dm_repo.proofs.TopLemmas.{UpTo, AreFrom, Rise, by_names, between, under_later, from_at, rise_each, is_under, says, kept_among}

-- each that is kept comes after those before it, or is the same
kept_rise : (k : Path) (xs : List Path) → AreFrom k xs → Rise xs → AllPairs UpTo (dedup_from is_under k xs)
kept_rise k [] a r = λ i j d small lt. absurd (omega (arith, small, lt))
kept_rise k (x ∷ xs) a r = go (under_dec x k) (kept_rise k xs a.1 r.1) (kept_rise x xs r.0 r.1)
  where
    go : (d : Under x k ⊎ (Under x k → ⊥)) → AllPairs UpTo (dedup_from is_under k xs) → AllPairs UpTo (dedup_from is_under x xs) → AllPairs UpTo (cond (says d) (dedup_from is_under k xs) (k ∷ dedup_from is_under x xs))
    go (inl u) ik ix = ik
    go (inr h) ik ix =
        let ys = dedup_from is_under x xs in
        AllPairs-cons UpTo k ys (λ j d lt. from_at k (x ∷ xs) a (get_or ys j d) (kept_among x xs (get_or ys j d) (Contains-get_or ys j d lt))) ix

row_rises : (ys : List Path) → Rise ys → AllPairs UpTo (dedup is_under ys)
row_rises [] r = λ i j d small lt. absurd (omega (arith, small, lt))
row_rises (k ∷ xs) r = kept_rise k xs r.0 r.1

-- from the last to the first, none comes before a later one
falls_turned : (zs ws : List Path) → AllPairs UpTo zs → ws ≡ reverse zs → AllPairs IsNotBefore ws
falls_turned zs ws rise e = subst (AllPairs IsNotBefore) (sym e) (λ i j d small lt. pair i j d small (omega (arith, lt, length-reverse zs)))
  where
    pair : (i j : ℕ) (d : Path) → i < j → j < length zs → IsNotBefore (get_or (reverse zs) i d) (get_or (reverse zs) j d)
    pair i j d small lt =
        let first : get_or (reverse zs) i d ≡ get_or zs (length zs - 1 - i) d = get_or-reverse zs i d (omega arith) in
        let second : get_or (reverse zs) j d ≡ get_or zs (length zs - 1 - j) d = get_or-reverse zs j d lt in
        rw (first, second) (rise (length zs - 1 - j) (length zs - 1 - i) d (omega arith) (omega arith))

-- so are the tops of sorted paths, turned
pub sorted_tops : (xs ys zs ws : List Path) → AreTopsOf xs ws → IsSortedBy (λ (p q : Path). is_lt (path_cmp p q)) ys → zs ≡ dedup is_under ys → ws ≡ reverse zs → AreSortedTops ws
sorted_tops xs ys zs ws tops sorted e turned = record {
  tops = tops.tops;
  falls = falls_turned zs ws (subst (AllPairs UpTo) (sym e) (row_rises ys (rise_each ys (λ i j d le lt. sorted_far (λ (p q : Path). is_lt (path_cmp p q)) by_names ys sorted i j d le lt)))) turned;
}

module _ (ps : List Path) (p : Path) (s : AreSortedTops ps) where
  -- of two tops the later one doesn't come after the other
  later : (i j : ℕ) (d : Path) → i ≤ j → j < length ps → UpTo (get_or ps j d) (get_or ps i d)
  later i j d le lt = elim (cases_lt i j) [
    | inl less ↦ s.falls i j d less lt
    | inr not ↦ let e : i ≡ j = omega (arith, le, not) in rw e (under_later (get_or ps j d) (get_or ps j d) (under_refl (get_or ps j d)))
  ]

  -- those that a path comes before stand before the others
  pub parted : IsPartitionedBy (λ top. is_lt (path_cmp p top)) ps
  parted i j d le lt before = go (is_lt (path_cmp p (get_or ps i d))) refl
    where
      go : (b : Bool) → is_lt (path_cmp p (get_or ps i d)) ≡ b → is_lt (path_cmp p (get_or ps i d)) ≡ true
      go true e = e
      go false e = let h : is_lt (path_cmp p (get_or ps j d)) ≡ false = by_names.chain p (get_or ps i d) (get_or ps j d) e (later i j d le lt) in absurd (cc)

  module _ (at : ℕ) (point : IsPartitionPoint (λ top. is_lt (path_cmp p top) ≡ true) (λ top. is_lt (path_cmp p top) ≡ false) ps at)
      (not_under : IsNotUnderAt ps at p) (not_before : ContainsNotBefore ps at p) where
    behind : (k : ℕ) (d : Path) → at ≤ k → k < length ps → UpTo (get_or ps k d) p
    behind k d le lt = point.1 k d le lt

    before : (k : ℕ) (d : Path) → k < at → k < length ps → UpTo p (get_or ps k d)
    before k d lt l = by_names.one_way p (get_or ps k d) (point.0 k d (omega arith) lt)

    -- it isn't under what stands behind the place
    out_behind : (k : ℕ) (d : Path) → at ≤ k → k < length ps → Under p (get_or ps k d) → ⊥
    out_behind k d le lt u = elim (cases_lt at k) [
      | inl less ↦ (s.tops.pairs at k d less lt).left (between (get_or ps k d) (get_or ps at d) p (s.falls at k d less lt) (behind at d (omega arith) (omega (arith, less, lt))) u)
      | inr not ↦ let e : k ≡ at = omega (arith, le, not) in not_under d (rw e at lt) (rw e at u)
    ]

    -- nor is it above that
    over_behind : (k : ℕ) (d : Path) → at ≤ k → k < length ps → Under (get_or ps k d) p → ⊥
    over_behind k d le lt u =
        let x = get_or ps k d in
        out_behind k d le lt (between x p x (behind k d le lt) (under_later x p u) (under_refl x))

    -- nor under what stands before the place
    out_before : (k : ℕ) (d : Path) → k < at → k < length ps → Under p (get_or ps k d) → ⊥
    out_before k d lt l u =
        let x = get_or ps k d in
        let no : is_lt (path_cmp p x) ≡ false = under_later p x u in
        let yes : is_lt (path_cmp p x) ≡ true = point.0 k d (omega arith) lt in
        absurd (cc)

    -- nor above that
    over_before : (k : ℕ) (d : Path) → k < at → at ≤ length ps → Under (get_or ps k d) p → ⊥
    over_before k d lt within u =
        let j : ℕ = at - 1 in
        not_before d j (omega (arith, lt)) (omega (arith, lt, within))
        (between p (get_or ps j d) (get_or ps k d) (before j d (omega (arith, lt)) (omega (arith, lt, within))) (later k j d (omega (arith, lt)) (omega (arith, lt, within))) u)

    pub apart_from : at ≤ length ps → IsApartFrom ps p
    apart_from within = record {
      each = λ k d lt. elim (cases_lt k at) [
        | inl less ↦ record { left = out_before k d less lt; right = over_before k d less within }
        | inr not ↦ record { left = out_behind k d (omega (arith, not)) lt; right = over_behind k d (omega (arith, not)) lt }
      ];
    }
