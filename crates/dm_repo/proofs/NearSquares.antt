-- What names only paths at or under some goes on doing so when it commutes or is merged.
use Rattle.std.proofs.Common.{◌≡◌, List, [], ◌∷◌, ◌++◌, ◌⊎◌, inl, inr, arith, sym}
use Rattle.std.specs.List.{All}
use Rattle.std.proofs.lemmas.List.Elements.{All-nil, All-cons, All-head, All-tail}
use Rattle.dm_tree.specs.Paths.{Path, Under, forward}
use Rattle.dm_tree.specs.Reach.{IsUnder}
use Rattle.dm_tree.proofs.Paths.{under_dec, under_append, under_trans, forward-under, forward-other, apart_sym}
use Rattle.dm_prim.specs.Primitives.{Work, Prim, At, Move, ChangePref, inv, inv_all}
use Rattle.dm_prim.specs.Rectangles.{CellRow, none, next, Rectangle, empty, row}
use Rattle.dm_prim.specs.Table.{MovesOutside, TableRow, first_above, second_above, hunk_replace, replace_hunk, two_replaces, two_works, work_move, move_work, two_moves, preference_first, preference_second}
use Rattle.dm_prim.specs.Commuting.{IsValidPrim, Commutes, ListsCommute}
use Rattle.dm_prim.specs.Parts.{NamesUnder}
use Rattle.dm_prim.proofs.Squares.{outside_inv}
use Rattle.dm_prim.proofs.TableRows.{row_turn}
use Rattle.dm_prim.proofs.LawProofs.{valid_inv}
use Rattle.dm_prim.proofs.TouchLemmas.{holds_of, holds_of_all, all_with}
use Rattle.dm_named.specs.Patches.{Patch}
use Rattle.dm_repo.specs.Aside.{StandsNear}
use Rattle.dm_repo.specs.Merging.{MergeRectangle, bare, over}
use Rattle.dm_repo.specs.Squares.{Placed, PlacedCommutes, PlacedMerges}
use Rattle.dm_repo.proofs.Inverses.{inv_all-inv_all}

-- what a square keeps of its two sides a row, a rectangle and a merge keep
module _ (P : Type 0) (Cell : P → P → P → P → Type 0) (Q R : P → Type 0) (keeps : (x y y' x' : P) → Cell x y y' x' → Q x → R y → R y' × Q x') where
  pub cells_keep : {x x' : P} {ys ys' : List P} → CellRow Cell x ys ys' x' → Q x → All R ys → All R ys' × Q x'
  cells_keep none h k = (k, h)
  cells_keep (next {x} {y} {y'} {x1} {ys = ys} {ys' = ys'} c s) h k =
      let a = keeps x y y' x1 c h (All-head R y ys k) in
      let b = cells_keep s a.1 (All-tail R y ys k) in
      (All-cons R y' ys' a.0 b.0, b.1)

  pub lists_keep : {xs ys ys' xs' : List P} → Rectangle Cell xs ys ys' xs' → All Q xs → All R ys → All R ys' × All Q xs'
  lists_keep empty h k = (k, All-nil Q)
  lists_keep (row {x} {x'} {xs} {xs'} g s) h k =
      let a = lists_keep g (All-tail Q x xs h) k in
      let b = cells_keep s (All-head Q x xs h) a.0 in
      (b.0, All-cons Q x' xs' b.1 a.1)

module _ (ps : List Path) where
  -- the names of a primitive
  pub work_in : (f : Path) (w : Work) → NamesUnder ps (At f w) → IsUnder ps f
  work_in f w n = All-head (IsUnder ps) f [] n.each

  pub from_in : (a b : Path) → NamesUnder ps (Move a b) → IsUnder ps a
  from_in a b n = All-head (IsUnder ps) a (b ∷ []) n.each

  pub to_in : (a b : Path) → NamesUnder ps (Move a b) → IsUnder ps b
  to_in a b n = All-head (IsUnder ps) b [] (All-tail (IsUnder ps) a (b ∷ []) n.each)

  work_under : (f : Path) (w : Work) → IsUnder ps f → NamesUnder ps (At f w)
  work_under f w u = record { each = All-cons (IsUnder ps) f [] u (All-nil (IsUnder ps)) }

  move_under : (a b : Path) → IsUnder ps a → IsUnder ps b → NamesUnder ps (Move a b)
  move_under a b u v = record { each = All-cons (IsUnder ps) a (b ∷ []) u (All-cons (IsUnder ps) b [] v (All-nil (IsUnder ps))) }

  -- a path under these stays so where another is put in the place of its front
  forward_in : (a b f : Path) → IsUnder ps b → IsUnder ps f → IsUnder ps (forward a b f)
  forward_in a b f ub uf = go (under_dec f a)
    where
      go : Under f a ⊎ (Under f a → ⊥) → IsUnder ps (forward a b f)
      go (inl (r, e)) = rw (e, forward-under a b r) (record { top = ub.top; among = ub.among; under = under_trans (b ++ r) b ub.top (under_append b r) ub.under })
      go (inr n) = rw (forward-other a b f n) uf

  row_under : {p q q' p' : Prim} → TableRow p q q' p' → NamesUnder ps p → NamesUnder ps q → NamesUnder ps q' × NamesUnder ps p'
  row_under (first_above c e) m n = (record { each = n.each }, m)
  row_under (second_above c e) m n = (n, record { each = m.each })
  row_under (hunk_replace a b) m n = (n, record { each = m.each })
  row_under (replace_hunk a b) m n = (record { each = n.each }, m)
  row_under (two_replaces s) m n = (n, m)
  row_under (two_works s) m n = (n, m)
  row_under (work_move {f} {f'} {a} {b} {w} c e) m n = (n, work_under f' w (rw e (forward_in a b f (to_in a b n) (work_in f w m))))
  row_under (move_work {f} {f'} {a} {b} {w} c e) m n = (work_under f' w (rw e (forward_in b a f (from_in a b m) (work_in f w n))), m)
  row_under (two_moves {a} {b} {c} {d} {a'} {b'} {c'} {d'} p ec ed ea eb) m n =
      let uc : IsUnder ps c' = rw ec (forward_in b a c (from_in a b m) (from_in c d n)) in
      let ud : IsUnder ps d' = rw ed (forward_in b a d (from_in a b m) (to_in c d n)) in
      let ua : IsUnder ps a' = rw ea (forward_in c' d' a ud (from_in a b m)) in
      let ub : IsUnder ps b' = rw eb (forward_in c' d' b ud (to_in a b m)) in
      (move_under c' d' uc ud, move_under a' b' ua ub)
  row_under (preference_first h) m n = (n, m)
  row_under (preference_second h) m n = (n, m)

  row_outside : {p q q' p' : Prim} → TableRow p q q' p' → MovesOutside p × MovesOutside q
  row_outside (first_above c e) = (tt, tt)
  row_outside (second_above c e) = (tt, tt)
  row_outside (hunk_replace a b) = (tt, tt)
  row_outside (replace_hunk a b) = (tt, tt)
  row_outside (two_replaces s) = (tt, tt)
  row_outside (two_works s) = (tt, tt)
  row_outside (work_move c e) = (tt, c.move_apart)
  row_outside (move_work c e) = (apart_sym c.move_apart, tt)
  row_outside (two_moves c e1 e2 e3 e4) = (c.first_apart, c.second_apart)
  row_outside (preference_first h) = (tt, h)
  row_outside (preference_second h) = (h, tt)

  -- a primitive of a patch that stands near
  abbrev pub IsNear : Prim → Type 0
  IsNear p = IsValidPrim p × NamesUnder ps p × MovesOutside p

  near_pair : (p q q' p' : Prim) → Commutes p q q' p' → IsNear p → IsNear q → IsNear q' × IsNear p'
  near_pair p q q' p' c h k =
      let u = row_under c.row h.1 k.1 in
      let o = row_outside (row_turn c.row) in
      ((c.valid_q', u.0, o.0), (c.valid_p', u.1, o.1))

  pub near_lists : {xs ys ys' xs' : List Prim} → ListsCommute xs ys ys' xs' → All IsNear xs → All IsNear ys → All IsNear ys' × All IsNear xs'
  near_lists g h k = lists_keep Prim Commutes IsNear IsNear near_pair g h k

  -- the inverse
  near_inv : (p : Prim) → IsNear p → IsNear (inv p)
  near_inv (At f w) h = (valid_inv (At f w) h.0, record { each = h.1.each }, tt)
  near_inv (Move a b) h = (valid_inv (Move a b) h.0, move_under b a (to_in a b h.1) (from_in a b h.1), outside_inv (Move a b) h.2)
  near_inv (ChangePref name old new) h = (valid_inv (ChangePref name old new) h.0, record { each = h.1.each }, tt)

  pub near_inverse : (xs : List Prim) → All IsNear xs → All IsNear (inv_all xs)
  near_inverse [] h = All-nil IsNear
  near_inverse (x ∷ xs) h = (all_with IsNear (inv_all xs) (inv x)).1 (near_inverse xs (All-tail IsNear x xs h), near_inv x (All-head IsNear x xs h))

  pub near_prims : (x : Patch) → StandsNear ps x → All IsNear x.prims
  near_prims x n = holds_of_all IsNear x.prims (λ p c. (holds_of IsValidPrim x.prims n.valid c, holds_of (NamesUnder ps) x.prims n.names c, holds_of MovesOutside x.prims n.moves c))

  pub stands_near : (x : Patch) → All IsNear x.prims → StandsNear ps x
  stands_near x h = record {
    valid = holds_of_all IsValidPrim x.prims (λ p c. (holds_of IsNear x.prims h c).0);
    names = holds_of_all (NamesUnder ps) x.prims (λ p c. (holds_of IsNear x.prims h c).1);
    moves = holds_of_all MovesOutside x.prims (λ p c. (holds_of IsNear x.prims h c).2);
  }

  -- patches with their places
  abbrev pub Near : Placed → Type 0
  Near x = StandsNear ps x.1

  pub near_square : (x y y' x' : Placed) → PlacedCommutes x y y' x' → Near x → Near y → Near y' × Near x'
  near_square x y y' x' c h k =
      let a = near_lists c.commutes.prims (near_prims x.1 h) (near_prims y.1 k) in
      (stands_near y'.1 a.0, stands_near x'.1 a.1)

  pub near_merge : (r n n' r' : Placed) → PlacedMerges r n n' r' → Near r → Near n → Near n' × Near r'
  near_merge r n n' r' m h k =
      let a = near_lists m.merges.prims (near_inverse r.1.prims (near_prims r.1 h)) (near_prims n.1 k) in
      let b = rw (inv_all-inv_all r'.1.prims) at (near_inverse (inv_all r'.1.prims) a.1) in
      (stands_near n'.1 a.0, stands_near r'.1 b)

  pub near_merged : {rest new new' rest' : List Placed} → MergeRectangle PlacedMerges rest new new' rest' → All Near rest → All Near new → All Near new' × All Near rest'
  near_merged bare h k = (k, All-nil Near)
  near_merged (over {r} {r'} {rest} {rest'} s g) h k =
      let a = cells_keep Placed PlacedMerges Near Near near_merge s (All-head Near r rest h) k in
      let b = near_merged g (All-tail Near r rest h) a.0 in
      (b.0, All-cons Near r' rest' a.1 b.1)
