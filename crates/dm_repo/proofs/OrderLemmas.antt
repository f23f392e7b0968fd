-- The order of paths, name by name.
use Rattle.std.proofs.Common.{◌≡◌, ℕ, ◌+◌, ◌<◌, ◌≤◌, true, false, [], drop, length, get_or, ◌⊎◌, inl, inr, refl, sym, ap, ◌∙◌, arith, add-one}
use Rattle.std.specs.declared.cmp.Ordering.{Ordering}
use Rattle.std.specs.declared.cmp.Ordering.TheVariants.{Less, Equal, Greater}
use Rattle.std.specs.Ordering.{is_ne, ordering_then, nat_cmp}
use Rattle.std.specs.Cmp.{nat_cmp_is}
use Rattle.std.proofs.Math.Seq.{drop-cons}
use Rattle.std.proofs.lemmas.List.{drop_all}
use Rattle.dm_tree.specs.Paths.{Path}
use Rattle.dm_tree.specs.Trees.{name_cmp, path_cmp}

-- the first names of what is left, and then the rest
pub one_name : (p q : Path) (i : ℕ) → i < length p → i < length q → path_cmp (drop i p) (drop i q) ≡ ordering_then (name_cmp (get_or p i []) (get_or q i [])) (path_cmp (drop (i + 1) p) (drop (i + 1) q))
one_name p q i lp lq = rw (drop-cons p i [], drop-cons q i [], add-one)

decided : (o r : Ordering) → is_ne o ≡ true → ordering_then o r ≡ o
decided Less r h = refl
decided Equal r h = cc
decided Greater r h = refl

tied : (o r : Ordering) → is_ne o ≡ false → ordering_then o r ≡ r
tied Less r h = cc
tied Equal r h = refl
tied Greater r h = cc

-- two names that differ decide
pub differ : (p q : Path) (i : ℕ) (o : Ordering) → i < length p → i < length q → o ≡ name_cmp (get_or p i []) (get_or q i []) → is_ne o ≡ true → path_cmp p q ≡ path_cmp (drop i p) (drop i q) → o ≡ path_cmp p q
differ p q i o lp lq is ne so_far = sym (so_far ∙ one_name p q i lp lq ∙ ap (λ z. ordering_then z (path_cmp (drop (i + 1) p) (drop (i + 1) q))) (sym is) ∙ decided o (path_cmp (drop (i + 1) p) (drop (i + 1) q)) ne)

-- two names that are the same leave it to the rest
pub agree : (p q : Path) (i : ℕ) (o : Ordering) → i < length p → i < length q → o ≡ name_cmp (get_or p i []) (get_or q i []) → is_ne o ≡ false → path_cmp p q ≡ path_cmp (drop i p) (drop i q) → path_cmp p q ≡ path_cmp (drop (i + 1) p) (drop (i + 1) q)
agree p q i o lp lq is eq so_far = so_far ∙ one_name p q i lp lq ∙ ap (λ z. ordering_then z (path_cmp (drop (i + 1) p) (drop (i + 1) q))) (sym is) ∙ tied o (path_cmp (drop (i + 1) p) (drop (i + 1) q)) eq

-- where one path has ended, the lengths decide
pub ended : (p q : Path) (i : ℕ) → i ≤ length p → i ≤ length q → (length p ≤ i) ⊎ (length q ≤ i) → path_cmp (drop i p) (drop i q) ≡ nat_cmp (length p) (length q)
ended p q i lp lq (inl le) = go which
  where
    which : (i ≡ length q) ⊎ (i < length q)
    which = grind arith

    go : (i ≡ length q) ⊎ (i < length q) → path_cmp (drop i p) (drop i q) ≡ nat_cmp (length p) (length q)
    go (inl e) = rw (drop_all i p le, drop_all i q (omega arith)) (nat_cmp_is (length p) (length q) Equal (omega arith))
    go (inr lt) = rw (drop_all i p le, drop-cons q i [] lt) (nat_cmp_is (length p) (length q) Less (omega arith))
ended p q i lp lq (inr le) = go which
  where
    which : (i ≡ length p) ⊎ (i < length p)
    which = grind arith

    go : (i ≡ length p) ⊎ (i < length p) → path_cmp (drop i p) (drop i q) ≡ nat_cmp (length p) (length q)
    go (inl e) = rw (drop_all i p (omega arith), drop_all i q le) (nat_cmp_is (length p) (length q) Equal (omega arith))
    go (inr lt) = rw (drop_all i q le, drop-cons p i [] lt) (nat_cmp_is (length p) (length q) Greater (omega arith))
