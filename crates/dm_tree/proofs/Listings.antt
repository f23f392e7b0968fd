-- The rows that a walk over a tree lists, and their order.
use Rattle.std.proofs.Common.{◌≡◌, ℕ, zero, suc, ◌+◌, ◌<◌, ◌≤◌, true, false, cond, List, [], ◌∷◌, ◌++◌, length, take, get_or, map, Some, IsSome, Result, Ok, Err, IfOk, refl, sym, ap, subst, ◌∙◌, arith, add-one, append-nil, append_assoc}
use Rattle.std.specs.Ordering.{eq_by_cmp}
use Rattle.std.specs.FinMap.{find, entries, from_sorted, entries-from_sorted, get-from_sorted, get-from_entries, same_map}
use Rattle.dm_tree.specs.Paths.{Name, Path}
use Rattle.dm_tree.specs.Validity.{IsValidPath}
use Rattle.dm_tree.specs.Trees.{Entry, Dir, path_cmp}
use Rattle.dm_tree.specs.Listings.{kind_of, listed_entry}
use Rattle.dm_tree.specs.Children.{PathEntries, Child, IsTree, below, all, flatten, look}
use Rattle.dm_tree.specs.Walks.{listed, AreValid, Later, InOrder}
use Rattle.dm_tree.specs.declared.listing.Kind.TheVariants as kind
use Rattle.dm_tree.specs.declared.listing.Listed.{Listed}
use Rattle.dm_tree.proofs.Children.{find-flatten_root}
use Rattle.dm_tree.proofs.MoveLemmas.{self_equal}
use Rattle.dm_tree.proofs.Sorted.{AllSorted, Later-append, sorted_test}
use Rattle.dm_tree.proofs.Steps.{not_none}
use Rattle.dm_tree.proofs.Trees.{path_total, path_same, tree_of}

pub if_ok : {T E : Type 0} (r : Result T E) (P Q : T → Type 0) → ((x : T) → P x → Q x) → IfOk r P → IfOk r Q
if_ok (Ok x) P Q f h = f x h
if_ok (Err e) P Q f h = h

valid_left : (above : Path) (xs ys : PathEntries) → AreValid above (xs ++ ys) → AreValid above xs
valid_left above [] ys g = tt
valid_left above (x ∷ xs) ys g = (g.0, valid_left above xs ys g.1)

valid_right : (above : Path) (xs ys : PathEntries) → AreValid above (xs ++ ys) → AreValid above ys
valid_right above [] ys g = g
valid_right above (x ∷ xs) ys g = valid_right above xs ys g.1

pub valid_at : (above : Path) (ks : List Child) (i : ℕ) (d : Child) → i < length ks → AreValid above (flatten ks) → AreValid above (below (get_or ks i d).name (all (get_or ks i d)))
valid_at above [] i d lt g = absurd (omega arith)
valid_at above (k ∷ ks) zero d lt g = valid_left above (below k.name (all k)) (flatten ks) g
valid_at above (k ∷ ks) (suc i) d lt g = valid_at above ks i d (omega arith) (valid_right above (below k.name (all k)) (flatten ks) g)

pub valid_below : (above : Path) (n : Name) (rs : PathEntries) → AreValid above (below n rs) → AreValid (above ++ n ∷ []) rs
valid_below above n [] g = tt
valid_below above n (r ∷ rs) g = (subst IsValidPath (sym (append_assoc above (n ∷ []) r.0)) g.0, valid_below above n rs g.1)

flatten_take : (ks : List Child) (i : ℕ) (d : Child) → i < length ks → flatten (take (suc i) ks) ≡ flatten (take i ks) ++ below (get_or ks i d).name (all (get_or ks i d))
flatten_take [] i d lt = absurd (omega arith)
flatten_take (k ∷ ks) zero d lt = append-nil (below k.name (all k))
flatten_take (k ∷ ks) (suc i) d lt = ap (λ l. below k.name (all k) ++ l) (flatten_take ks i d (omega arith)) ∙ sym (append_assoc (below k.name (all k)) (flatten (take i ks)) (below (get_or ks i d).name (all (get_or ks i d))))

module _ {A : Type 0} where
  listed_append : (above : Path) (xs ys : PathEntries) → listed {A = A} above (xs ++ ys) ≡ listed above xs ++ listed above ys
  listed_append above [] ys = refl
  listed_append above (x ∷ xs) ys = ap (λ l. record { path = above ++ x.0; kind = kind_of x.1 } ∷ l) (listed_append above xs ys)

  listed_below : (above : Path) (n : Name) (rs : PathEntries) → listed {A = A} (above ++ n ∷ []) rs ≡ listed above (below n rs)
  listed_below above n [] = refl
  listed_below above n (r ∷ rs) = ap (λ p. record { path = p; kind = kind_of r.1 } ∷ listed (above ++ n ∷ []) rs) (append_assoc above (n ∷ []) r.0) ∙ ap (λ l. record { path = above ++ n ∷ r.0; kind = kind_of r.1 } ∷ l) (listed_below above n rs)

  pub listed_root : (rs : PathEntries) → listed {A = A} [] rs ≡ map listed_entry rs
  listed_root [] = refl
  listed_root (r ∷ rs) = ap (λ l. listed_entry r ∷ l) (listed_root rs)

  pub more_rows : (old mid new : List (Listed A)) (above : Path) (ks : List Child) (i : ℕ) (d k : Child) → i < length ks → k ≡ get_or ks i d → mid ≡ old ++ listed above (flatten (take i ks)) → new ≡ mid ++ listed above (below k.name (all k)) → new ≡ old ++ listed above (flatten (take (i + 1) ks))
  more_rows old mid new above ks i d k lt is e f =
      f ∙ ap (λ m. m ++ listed above (below k.name (all k))) e ∙ append_assoc old (listed above (flatten (take i ks))) (listed above (below k.name (all k)))
      ∙ ap (λ l. old ++ l) (sym (listed_append above (flatten (take i ks)) (below k.name (all k))))
      ∙ ap (λ (x : Child). old ++ listed above (flatten (take i ks) ++ below x.name (all x))) is
      ∙ ap (λ l. old ++ listed above l) (sym (flatten_take ks i d lt)) ∙ ap (λ j. old ++ listed above (flatten (take j ks))) (sym (add-one i))

  pub dir_rows : (old mid new : List (Listed A)) (above name here names : Path) (n : Name) (e : Entry) (rows under : PathEntries) → e ≡ Dir → here ≡ above ++ n ∷ [] → names ≡ above ++ n ∷ [] → rows ≡ under → mid ≡ old ++ record { path = here; kind = kind.Dir } ∷ [] → new ≡ mid ++ listed names rows → new ≡ old ++ record { path = above ++ n ∷ []; kind = kind_of e } ∷ listed above (below n under)
  dir_rows old mid new above name here names n e rows under is p q r m f =
      f ∙ ap (λ l. l ++ listed names rows) m ∙ append_assoc old (record { path = here; kind = kind.Dir } ∷ []) (listed names rows)
      ∙ ap (λ x. old ++ record { path = x; kind = kind.Dir } ∷ listed names rows) p
      ∙ ap (λ x. old ++ record { path = above ++ n ∷ []; kind = kind.Dir } ∷ listed x rows) q
      ∙ ap (λ x. old ++ record { path = above ++ n ∷ []; kind = kind.Dir } ∷ listed (above ++ n ∷ []) x) r
      ∙ ap (λ l. old ++ record { path = above ++ n ∷ []; kind = kind.Dir } ∷ l) (listed_below above n under)
      ∙ ap (λ k. old ++ record { path = above ++ n ∷ []; kind = kind_of k } ∷ listed above (below n under)) (sym is)

sorted_suc : (ks : List Child) (i : ℕ) (d : Child) → i < length ks → AllSorted (take i ks) → InOrder (all (get_or ks i d)) → AllSorted (take (suc i) ks)
sorted_suc [] i d lt s o = absurd (omega arith)
sorted_suc (k ∷ ks) zero d lt s o = (o, tt)
sorted_suc (k ∷ ks) (suc i) d lt s o = (s.0, sorted_suc ks i d (omega arith) s.1 o)

pub sorted_more : (ks : List Child) (i : ℕ) (d k : Child) → i < length ks → k ≡ get_or ks i d → AllSorted (take i ks) → InOrder (all k) → AllSorted (take (i + 1) ks)
sorted_more ks i d k lt is s o = subst (λ j. AllSorted (take j ks)) (sym (add-one i)) (sorted_suc ks i d lt s (subst (λ (x : Child). InOrder (all x)) is o))

pub sorted_all : (ks : List Child) (i : ℕ) → length ks ≤ i → AllSorted (take i ks) → AllSorted ks
sorted_all [] i le s = tt
sorted_all (k ∷ ks) zero le s = absurd (omega arith)
sorted_all (k ∷ ks) (suc i) le s = (s.0, sorted_all ks i (omega arith) s.1)

later_below : (n : Name) (rs : PathEntries) → Later [] (below n rs)
later_below n [] = tt
later_below n (r ∷ rs) = (refl, later_below n rs)

pub later_flatten : (ks : List Child) → Later [] (flatten ks)
later_flatten [] = tt
later_flatten (k ∷ ks) = Later-append [] (below k.name (all k)) (flatten ks) (later_below k.name (all k)) (later_flatten ks)

pub dir_sorted : (k : Child) (ks ks' : List Child) → k.under ≡ flatten ks → ks' ≡ ks → InOrder (flatten ks') → InOrder (all k)
dir_sorted k ks ks' is e o = subst (λ u. InOrder (([], k.entry) ∷ u)) (sym is) (later_flatten ks, subst (λ l. InOrder (flatten l)) e o)

-- every row of a tree may stand in a listing
valid_rows : (rs : PathEntries) → ((q : Path) → IsSome (find path_cmp q rs) → IsValidPath q) → AreValid [] rs
valid_rows [] h = tt
valid_rows (r ∷ rs) h = (h r.0 (subst IsSome (sym (ap (λ b. cond b (Some r.1) (find path_cmp r.0 rs)) (self_equal r.0))) refl), valid_rows rs (λ q some. h q (keep q some)))
  where
    keep : (q : Path) → IsSome (find path_cmp q rs) → IsSome (cond (eq_by_cmp path_cmp q r.0) (Some r.1) (find path_cmp q rs))
    keep q some = elim (eq_by_cmp path_cmp q r.0) as (λ t. IsSome (cond t (Some r.1) (find path_cmp q rs))) [ true ↦ refl | false ↦ some ]

pub valid_tree : (ks : List Child) → IsTree ks → AreValid [] (flatten ks)
valid_tree ks t = valid_rows (flatten ks) each
  where
    each : (q : Path) → IsSome (find path_cmp q (flatten ks)) → IsValidPath q
    each [] some = absurd (not_none (find path_cmp [] (flatten ks)) some (find-flatten_root ks))
    each (n ∷ q) some = t.valid (n ∷ q) (λ e. let f : n ∷ q ≡ [] = e in cc) (not_none (look ks (n ∷ q)) some)

pub entries_tree : (ks : List Child) → InOrder (flatten ks) → entries (tree_of ks) ≡ ([], Dir) ∷ flatten ks
entries_tree ks o =
    let rows : PathEntries = ([], Dir) ∷ flatten ks in
    let test = sorted_test rows (later_flatten ks, o) in
    ap entries (same_map path_total path_same (tree_of ks) (from_sorted rows) (λ q. get-from_entries path_total rows q ∙ sym (get-from_sorted path_cmp rows q test))) ∙ entries-from_sorted path_cmp rows test
