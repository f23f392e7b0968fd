-- That the rows of a tree stand in the order of their paths.
use Rattle.std.proofs.Common.{◌≡◌, ◌<◌, ◌⊎◌, inl, inr, true, false, ◌&&◌, cond, List, [], ◌∷◌, ◌++◌, length, get_or, drop, refl, sym, ap, ◌∙◌, subst, Some, None, arith, length-append}
use Rattle.std.proofs.lemmas.List.{get_or_at}
use Rattle.std.specs.declared.cmp.Ordering.TheVariants.{Less}
use Rattle.std.specs.Ordering.{eq_by_cmp, is_eq, is_lt}
use Rattle.std.specs.FinMap.{entries, get, get-entries, entries_sorted, find, is_sorted}
use Rattle.dm_tree.specs.Paths.{Name, Path}
use Rattle.dm_tree.specs.Trees.{Entry, Dir, IsLawful, Tree, path_cmp}
use Rattle.dm_tree.proofs.Children.{name_self}
use Rattle.dm_tree.proofs.MoveLemmas.{self_equal}
use Rattle.dm_tree.proofs.Trees.{equal_by, path_total}
use Rattle.dm_checkout.specs.Made.{rows}
use Rattle.dm_checkout.specs.Order.{EachOnce, ParentsFirst}
use Rattle.dm_checkout.proofs.RowLemmas.{below_at, first_so, is_less, rises, row_at, second_so}
use lib.Dec.{T}

less_child : (p : Path) (n : Name) → path_cmp p (p ++ n ∷ []) ≡ Less
less_child [] n = refl
less_child (m ∷ p) n = rw (name_self m) (less_child p n)

not_equal : (p q : Path) → path_cmp p q ≡ Less → eq_by_cmp path_cmp p q ≡ false
not_equal p q h = ap is_eq h

rises_before : (p q : Path) (es : List (Path × Entry)) → path_cmp p q ≡ Less → T (rises q es) → T (rises p es)
rises_before p q [] h r = tt
rises_before p q (e ∷ es) h r =
    let less : path_cmp p e.0 ≡ Less = path_total.trans p q e.0 h (is_less (path_cmp q e.0) (first_so (is_lt (path_cmp q e.0)) (rises q es) r)) in
    subst (λ o. T (is_lt o && rises p es)) (sym less) (rises_before p q es h (second_so (is_lt (path_cmp q e.0)) (rises q es) r))

none_above : (p : Path) (es : List (Path × Entry)) → T (rises p es) → find path_cmp p es ≡ None
none_above p [] r = refl
none_above p (e ∷ es) r =
    ap (λ b. cond b (Some e.1) (find path_cmp p es)) (not_equal p e.0 (is_less (path_cmp p e.0) (first_so (is_lt (path_cmp p e.0)) (rises p es) r)))
    ∙ none_above p es (second_so (is_lt (path_cmp p e.0)) (rises p es) r)

-- what is found under a path stands before a row of a greater path
found_before : (p : Path) (v : Entry) (xs : List (Path × Entry)) (x : Path × Entry) (ys : List (Path × Entry)) → T (is_sorted path_cmp (xs ++ x ∷ ys)) → path_cmp p x.0 ≡ Less → find path_cmp p (xs ++ x ∷ ys) ≡ Some v → (sooner : List (Path × Entry)) × (later : List (Path × Entry)) × (xs ≡ sooner ++ (p, v) ∷ later)
found_before p v [] x ys s h f =
    let above : find path_cmp p ys ≡ None = none_above p ys (rises_before p x.0 ys h (first_so (rises x.0 ys) (is_sorted path_cmp ys) s)) in
    let none : find path_cmp p (x ∷ ys) ≡ None = ap (λ b. cond b (Some x.1) (find path_cmp p ys)) (not_equal p x.0 h) ∙ above in
    let clash : None ≡ Some v = sym none ∙ f in
    cc
found_before p v (z ∷ zs) x ys s h f =
    elim (eq_by_cmp path_cmp p z.0) as (λ b. eq_by_cmp path_cmp p z.0 ≡ b → cond b (Some z.1) (find path_cmp p (zs ++ x ∷ ys)) ≡ Some v → (sooner : List (Path × Entry)) × (later : List (Path × Entry)) × (z ∷ zs ≡ sooner ++ (p, v) ∷ later)) [
      | true ↦ (λ e g.
          let path : z.0 ≡ p = sym (equal_by p z.0 e) in
          let value : z.1 ≡ v = cc in
          let pair : ◌≡◌ {A = Path × Entry} (z.0, z.1) (p, v) = rw (path, value) refl in
          ([], zs, ap (λ (y : Path × Entry). y ∷ zs) pair))
      | false ↦ (λ e g.
          let rest = found_before p v zs x ys (second_so (rises z.0 (zs ++ x ∷ ys)) (is_sorted path_cmp (zs ++ x ∷ ys)) s) h g in
          (z ∷ rest.0, rest.1, ap (λ ys'. z ∷ ys') rest.2))
    ] refl f

-- the first entry of a tree is the root
root_first : (e : Path × Entry) (es : List (Path × Entry)) → T (is_sorted path_cmp (e ∷ es)) → find path_cmp [] (e ∷ es) ≡ Some Dir → e.0 ≡ []
root_first ([], v) es s f = refl
root_first ((n ∷ q), v) es s f =
    let none : find path_cmp [] es ≡ None = none_above [] es (rises_before [] (n ∷ q) es refl (first_so (rises (n ∷ q) es) (is_sorted path_cmp es) s)) in
    let clash : None ≡ Some Dir = sym none ∙ f in
    cc

module _ (t : Tree) (law : IsLawful (get t)) where
  pub parents_first : ParentsFirst t
  parents_first before p n e after is = split (entries t) refl
    where
      x : Path × Entry
      x = (p ++ n ∷ [], e)

      at : get_or (rows t) (length before) x ≡ x
      at = rw is (get_or_at before x after x (length before) refl)

      within : length before < length (rows t)
      within = rw is (omega (arith, length-append before (x ∷ after)))

      child : get t (p ++ n ∷ []) ≡ Some e
      child = rw at at (row_at t (length before) x within)

      parent : get t p ≡ Some Dir
      parent = law.parents p n (λ none. let clash : None ≡ Some e = sym none ∙ child in cc)

      Sooner : Type 0
      Sooner = (p ≡ []) ⊎ ((sooner : List (Path × Entry)) × (later : List (Path × Entry)) × (before ≡ sooner ++ (p, Dir) ∷ later))

      place : (e₀ : Path × Entry) → e₀.0 ≡ [] → (sooner later : List (Path × Entry)) → e₀ ∷ before ≡ sooner ++ (p, Dir) ∷ later → Sooner
      place e₀ root [] later eq =
          let first : e₀ ≡ (p, Dir) = cc in
          inl (sym (ap (λ (r : Path × Entry). r.0) first) ∙ root)
      place e₀ root (y ∷ sooner) later eq =
          let rest : before ≡ sooner ++ (p, Dir) ∷ later = cc in
          inr (sooner, later, rest)

      split : (es : List (Path × Entry)) → entries t ≡ es → Sooner
      split [] same = absurd (omega (arith, ap (λ es. length (drop 1 es)) same, within))
      split (e₀ ∷ es) same =
          let row : es ≡ before ++ x ∷ after = sym (ap (drop 1) same) ∙ is in
          let whole : entries t ≡ e₀ ∷ (before ++ x ∷ after) = same ∙ ap (λ rs. e₀ ∷ rs) row in
          let sorted : T (is_sorted path_cmp (e₀ ∷ (before ++ x ∷ after))) = rw whole at (entries_sorted t) in
          let found : find path_cmp p (e₀ ∷ (before ++ x ∷ after)) ≡ Some Dir = ap (find path_cmp p) (sym whole) ∙ sym (get-entries t p) ∙ parent in
          let root : find path_cmp [] (e₀ ∷ (before ++ x ∷ after)) ≡ Some Dir = ap (find path_cmp []) (sym whole) ∙ sym (get-entries t []) ∙ law.root in
          let r = found_before p Dir (e₀ ∷ before) x after sorted (less_child p n) found in
          place e₀ (root_first e₀ (before ++ x ∷ after) sorted root) r.0 r.1 r.2

-- two rows have two paths
apart_rows : (xs : List (Path × Entry)) (a : Path × Entry) (ys : List (Path × Entry)) (b : Path × Entry) (zs : List (Path × Entry)) → T (is_sorted path_cmp (xs ++ a ∷ (ys ++ b ∷ zs))) → path_cmp a.0 b.0 ≡ Less
apart_rows [] a ys b zs s = rw (get_or_at ys b zs b (length ys) refl) at (below_at a.0 (ys ++ b ∷ zs) (length ys) b (first_so (rises a.0 (ys ++ b ∷ zs)) (is_sorted path_cmp (ys ++ b ∷ zs)) s) (omega (arith, length-append ys (b ∷ zs))))
apart_rows (x ∷ xs) a ys b zs s = apart_rows xs a ys b zs (second_so (rises x.0 (xs ++ a ∷ (ys ++ b ∷ zs))) (is_sorted path_cmp (xs ++ a ∷ (ys ++ b ∷ zs))) s)

sorted_rows : (es : List (Path × Entry)) → T (is_sorted path_cmp es) → T (is_sorted path_cmp (drop 1 es))
sorted_rows [] s = tt
sorted_rows (e ∷ es) s = second_so (rises e.0 es) (is_sorted path_cmp es) s

pub each_once : (t : Tree) → EachOnce t
each_once t before a between b after is same =
    let sorted : T (is_sorted path_cmp (before ++ a ∷ (between ++ b ∷ after))) = rw is at (sorted_rows (entries t) (entries_sorted t)) in
    let less : path_cmp a.0 b.0 ≡ Less = apart_rows before a between b after sorted in
    let test : eq_by_cmp path_cmp a.0 b.0 ≡ true = rw (← same) (self_equal a.0) in
    let clash : true ≡ false = sym test ∙ not_equal a.0 b.0 less in
    cc
