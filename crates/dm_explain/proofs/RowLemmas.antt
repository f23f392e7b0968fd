-- The first path of a tree that gets too many names by a move: the rows of a listing are in the order of their paths, and the root is none of them.
use Rattle.std.proofs.Common.{◌≡◌, ◌≢◌, ℕ, zero, suc, ◌<◌, ◌≤◌, Bool, true, false, ◌&&◌, cond, List, [], ◌∷◌, ◌++◌, length, map, drop, slice_get, Option, Some, None, ◌⊎◌, inl, inr, refl, sym, ap, ◌∙◌, arith}
use Rattle.std.specs.Prelude.{Err}
use Rattle.std.specs.Option.{option_map}
use Rattle.std.specs.declared.cmp.Ordering.{Ordering}
use Rattle.std.specs.declared.cmp.Ordering.TheVariants.{Less, Equal, Greater}
use Rattle.std.specs.Ordering.{eq_by_cmp, is_lt, is_eq, ordering_reverse}
use Rattle.std.specs.FinMap.{entries, get, get-entries, entries_sorted, find, is_sorted}
use Rattle.std.proofs.lemmas.Bool.{cases_Bool, cases_lt}
use Rattle.std.proofs.lemmas.Option.{slice_get-map, slice_get_within}
use Rattle.dm_tree.specs.Changes.{RenameAnswers}
use Rattle.dm_tree.specs.declared.fault.TreeFault.TheVariants.{TooDeep}
use Rattle.dm_tree.specs.declared.listing.Listed.{Listed}
use Rattle.dm_tree.specs.Limits.{most_names}
use Rattle.dm_tree.specs.Listings.{listed_entry}
use Rattle.dm_tree.specs.Paths.{Path, forward}
use Rattle.dm_tree.specs.Trees.{Entry, Dir, IsLawful, Tree, path_cmp}
use Rattle.dm_tree.proofs.MoveLemmas.{self_equal}
use Rattle.dm_tree.proofs.Paths.{forward-other, forward-under}
use Rattle.dm_tree.proofs.Trees.{equal_by, path_total}
use Rattle.dm_explain.specs.Rows.{AreShallow, FirstDeep}
use lib.Dec.{T}

first_so : (a b : Bool) → T (a && b) → T a
first_so true b h = tt
first_so false b h = h

second_so : (a b : Bool) → T (a && b) → T b
second_so true b h = h
second_so false b h = absurd h

is_less : (o : Ordering) → T (is_lt o) → o ≡ Less
is_less Less h = refl
is_less Equal h = absurd h
is_less Greater h = absurd h

-- the path is before each of these
abbrev rises : Path → List (Path × Entry) → Bool
rises p es = elim es as (λ x. Bool) [ [] ↦ true | ◌∷◌ e (es → rest) ↦ is_lt (path_cmp p e.0) && rest ]

below_at : (p : Path) (es : List (Path × Entry)) (k : ℕ) (e : Path × Entry) → T (rises p es) → slice_get es k ≡ Some e → path_cmp p e.0 ≡ Less
below_at p [] k e h at = absurd (cc)
below_at p (x ∷ es) zero e h at = let s : x ≡ e = cc in rw s at (is_less (path_cmp p x.0) (first_so (is_lt (path_cmp p x.0)) (rises p es) h))
below_at p (x ∷ es) (suc k) e h at = below_at p es k e (second_so (is_lt (path_cmp p x.0)) (rises p es) h) at

-- the later place has the later path
ordered : (es : List (Path × Entry)) (j k : ℕ) (a b : Path × Entry) → T (is_sorted path_cmp es) → slice_get es j ≡ Some a → slice_get es k ≡ Some b → j < k → path_cmp a.0 b.0 ≡ Less
ordered [] j k a b h p q l = absurd (cc)
ordered (x ∷ es) zero zero a b h p q l = absurd (omega arith)
ordered (x ∷ es) zero (suc k) a b h p q l = let s : x ≡ a = cc in rw s at (below_at x.0 es k b (first_so (rises x.0 es) (is_sorted path_cmp es) h) q)
ordered (x ∷ es) (suc j) zero a b h p q l = absurd (omega arith)
ordered (x ∷ es) (suc j) (suc k) a b h p q l = ordered es j k a b (second_so (rises x.0 es) (is_sorted path_cmp es) h) p q (omega (arith, l))

-- what stands at a place is found
found_at : (es : List (Path × Entry)) (k : ℕ) (e : Path × Entry) → T (is_sorted path_cmp es) → slice_get es k ≡ Some e → find path_cmp e.0 es ≡ Some e.1
found_at [] k e h at = absurd (cc)
found_at (x ∷ es) zero e h at = let s : e ≡ x = cc in rw s (ap (λ b. cond b (Some x.1) (find path_cmp e.0 es)) (self_equal x.0))
found_at (x ∷ es) (suc k) e h at =
    let below : path_cmp x.0 e.0 ≡ Less = below_at x.0 es k e (first_so (rises x.0 es) (is_sorted path_cmp es) h) at in
    ap (λ b. cond b (Some x.1) (find path_cmp e.0 es)) (ap is_eq (path_total.antisymm e.0 x.0 ∙ ap ordering_reverse below)) ∙ found_at es k e (second_so (rises x.0 es) (is_sorted path_cmp es) h) at

-- what is found stands at a place
place_of : (es : List (Path × Entry)) (q : Path) → find path_cmp q es ≢ None → (k : ℕ) × (e : Path × Entry) × (slice_get es k ≡ Some e) × (e.0 ≡ q)
place_of [] q h = absurd (h refl)
place_of (x ∷ es) q h = elim (cases_Bool (eq_by_cmp path_cmp q x.0)) [
  | inl t ↦ (0, x, refl, sym (equal_by q x.0 t))
  | inr f ↦ let w = place_of es q (λ n. h (ap (λ b. cond b (Some x.1) (find path_cmp q es)) f ∙ n)) in (suc w.0, w.1, w.2, w.3)
]

none_before_root : (p : Path) → path_cmp p [] ≡ Less → ⊥
none_before_root [] e = cc
none_before_root (n ∷ p) e = cc

-- the root comes first
root_first : (es : List (Path × Entry)) (e : Path × Entry) → T (is_sorted path_cmp es) → slice_get es 0 ≡ Some e → find path_cmp [] es ≢ None → e.0 ≡ []
root_first es e h first there = let w = place_of es [] there in go w.0 w.1 w.2 w.3
  where
    go : (k : ℕ) (r : Path × Entry) → slice_get es k ≡ Some r → r.0 ≡ [] → e.0 ≡ []
    go zero r at is = let s : e ≡ r = cc in ap (λ (x : Path × Entry). x.0) s ∙ is
    go (suc k) r at is = absurd (none_before_root e.0 (rw is at (ordered es 0 (suc k) e r h first at (omega arith))))

-- each entry but the first has a row
row_in : {Z : Type 0} (es : List (Path × Entry)) (k : ℕ) (e : Path × Entry) → slice_get es (suc k) ≡ Some e → slice_get (map (listed_entry {A = Z}) (drop 1 es)) k ≡ Some (listed_entry e)
row_in [] k e at = absurd (cc)
row_in {Z} (x ∷ es) k e at = slice_get-map (listed_entry {A = Z}) es k ∙ ap (option_map listed_entry) at

row_out : {Z : Type 0} (es : List (Path × Entry)) (k : ℕ) (row : Listed Z) → slice_get (map listed_entry (drop 1 es)) k ≡ Some row → (e : Path × Entry) × (slice_get es (suc k) ≡ Some e) × (row ≡ listed_entry e)
row_out [] k row at = absurd (cc)
row_out {Z} (x ∷ es) k row at = go (slice_get es k) refl (sym (slice_get-map (listed_entry {A = Z}) es k) ∙ at)
  where
    go : (o : Option (Path × Entry)) → slice_get es k ≡ o → option_map (listed_entry {A = Z}) o ≡ Some row → (e : Path × Entry) × (slice_get es k ≡ Some e) × (row ≡ listed_entry e)
    go None e f = absurd (cc)
    go (Some y) e f = let s : listed_entry y ≡ row = cc in (y, e, sym s)

front_none : (a r : Path) → [] ≡ a ++ r → a ≡ []
front_none [] r e = refl
front_none (n ∷ a) r e = absurd (cc)

-- the tree refuses the move, as a path would get too many names
module _ {Z : Type 0} (t : Tree) (from to : Path) (rows : List (Listed Z)) (is : rows ≡ map listed_entry (drop 1 (entries t))) (lawful : IsLawful (get t))
    (refused : RenameAnswers {T = Unit {0}} (get t) from to (Err TooDeep)) where
  below : from ≢ []
  below e = refused.0.not_into (to, rw e refl)

  root_there : find path_cmp [] (entries t) ≢ None
  root_there n = let e : find path_cmp [] (entries t) ≡ Some Dir = sym (get-entries t []) ∙ lawful.root in cc

  -- a path of the tree is the root, or has a row
  row_of : (q : Path) → get t q ≢ None → (q ≡ []) ⊎ ((k : ℕ) × (e : Path × Entry) × (slice_get (entries t) (suc k) ≡ Some e) × (slice_get rows k ≡ Some (listed_entry e)) × (e.0 ≡ q))
  row_of q there = let w = place_of (entries t) q (λ n. there (get-entries t q ∙ n)) in go w.0 w.1 w.2 w.3
    where
      go : (k : ℕ) (e : Path × Entry) → slice_get (entries t) k ≡ Some e → e.0 ≡ q →
          (q ≡ []) ⊎ ((k : ℕ) × (e : Path × Entry) × (slice_get (entries t) (suc k) ≡ Some e) × (slice_get rows k ≡ Some (listed_entry e)) × (e.0 ≡ q))
      go zero e at same = inl (sym same ∙ root_first (entries t) e (entries_sorted t) at root_there)
      go (suc k) e at same = inr (k, e, at, rw is (row_in (entries t) k e at), same)

  -- the root stays
  root_shallow : (q : Path) → q ≡ [] → length (forward from to q) ≤ most_names
  root_shallow q e = rw (e, forward-other from to [] (λ u. below (front_none from u.0 u.1))) (omega arith)

  module _ (path : Path) (f : FirstDeep from to rows path) where
    stands : (e : Path × Entry) × (slice_get (entries t) (suc f.place) ≡ Some e) × (f.row ≡ listed_entry e)
    stands = row_out (entries t) f.place f.row (rw is at f.at)

    path_is : path ≡ stands.0.0
    path_is = f.is_path ∙ ap (λ (r : Listed Z). r.path) stands.2

    pub first_there : get t path ≢ None
    first_there n =
        let s = found_at (entries t) (suc f.place) stands.0 (entries_sorted t) stands.1 in
        let e : find path_cmp stands.0.0 (entries t) ≡ None = sym (ap (λ (p : Path). find path_cmp p (entries t)) path_is) ∙ sym (get-entries t path) ∙ n in
        cc

    pub first_before : (q : Path) → get t q ≢ None → path_cmp q path ≡ Less → length (forward from to q) ≤ most_names
    first_before q there less = elim (row_of q there) [ inl e ↦ root_shallow q e | inr w ↦ go w.0 w.1 w.2 w.3 w.4 ]
      where
        not_less : path_cmp path q ≡ Less → ⊥
        not_less h = let e : path_cmp q path ≡ Greater = path_total.antisymm q path ∙ ap ordering_reverse h in cc

        same_less : path ≡ q → ⊥
        same_less e = let h : path_cmp q q ≡ Less = rw e at less in let s = ap is_eq h in let d = self_equal q in cc

        go : (k : ℕ) (e : Path × Entry) → slice_get (entries t) (suc k) ≡ Some e → slice_get rows k ≡ Some (listed_entry e) → e.0 ≡ q → length (forward from to q) ≤ most_names
        go k e at row same = elim (cases_lt k f.place) [
          | inl l ↦ rw same at (f.before k (listed_entry e) l row)
          | inr h ↦ elim (cases_lt f.place k) [
            | inl l ↦ absurd (not_less (rw (← path_is, same) at (ordered (entries t) (suc f.place) (suc k) stands.0 e (entries_sorted t) stands.1 at (omega (arith, l)))))
            | inr g ↦
                let n : f.place ≡ k = omega (arith, h, g) in
                let s : slice_get (entries t) (suc k) ≡ Some stands.0 = sym (ap (λ m. slice_get (entries t) (suc m)) n) ∙ stands.1 in
                let u : stands.0 ≡ e = cc in
                absurd (same_less (path_is ∙ ap (λ (x : Path × Entry). x.0) u ∙ same))
          ]
        ]

  -- so some row is too deep
  pub none_shallow : AreShallow from to rows → ⊥
  none_shallow shallow = go refused.1
    where
      at_row : (r : Path) → most_names < length (to ++ r) → (k : ℕ) (e : Path × Entry) → slice_get rows k ≡ Some (listed_entry e) → e.0 ≡ from ++ r → ⊥
      at_row r deep k e row same =
          let s : length (forward from to (from ++ r)) ≤ most_names = rw same at (shallow k (listed_entry e) (slice_get_within rows k (listed_entry e) row) row) in
          let d : length (to ++ r) ≤ most_names = rw forward-under at s in
          omega (arith, d, deep)

      go : (r : Path) × (get t (from ++ r) ≢ None) × (most_names < length (to ++ r)) → ⊥
      go (r, there, deep) = elim (row_of (from ++ r) there) [ inl e ↦ below (front_none from r (sym e)) | inr w ↦ at_row r deep w.0 w.1 w.3 w.4 ]
