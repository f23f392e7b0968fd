-- What stands aside passes what stands near, and both stay as they are.
use Rattle.std.proofs.Common.{◌≡◌, List, [], ◌∷◌, ◌++◌, refl, arith, sym}
use Rattle.std.specs.List.{All, Contains}
use Rattle.std.proofs.lemmas.List.Elements.{All-nil, All-cons, All-head, All-tail}
use Rattle.dm_tree.specs.Paths.{Path, Under, Apart}
use Rattle.dm_tree.specs.Reach.{IsUnder}
use Rattle.dm_tree.proofs.Paths.{under_trans, apart_under, apart_sym, forward-other}
use Rattle.dm_prim.specs.Primitives.{Work, Prim, At, Move, ChangePref, inv, inv_all}
use Rattle.dm_prim.specs.Rectangles.{CellRow, none, next, Rectangle, empty, row}
use Rattle.dm_prim.specs.Table.{MovesOutside, TableRow, two_works, work_move, preference_first, preference_second, WorkThenMove}
use Rattle.dm_prim.specs.Commuting.{IsValidPrim, Commutes, ListsCommute}
use Rattle.dm_prim.specs.Touch.{IsApartFrom}
use Rattle.dm_prim.specs.Parts.{NamesUnder}
use Rattle.dm_prim.proofs.Squares.{not_inside, same_under}
use Rattle.dm_prim.proofs.LawProofs.{valid_inv}
use Rattle.dm_prim.proofs.TouchLemmas.{holds_of, holds_of_all, all_with}
use Rattle.dm_named.specs.Patches.{Patch}
use Rattle.dm_named.specs.Commuting.{Stays}
use Rattle.dm_repo.specs.Aside.{IsAside, StandsAside}
use Rattle.dm_repo.specs.Squares.{Placed, PlacedCommutes, PlacedMerges}
use Rattle.dm_repo.proofs.NearSquares.{work_in, from_in, to_in, IsNear, near_prims, Near}

module _ (P : Type 0) (Cell : P → P → P → P → Type 0) (Q R : P → Type 0) (stays : (x y : P) → Q x → R y → Cell x y y x) where
  pub row_unchanged : (x : P) (ys : List P) → Q x → All R ys → CellRow Cell x ys ys x
  row_unchanged x [] h k = none
  row_unchanged x (y ∷ ys) h k = next (stays x y h (All-head R y ys k)) (row_unchanged x ys h (All-tail R y ys k))

  pub lists_unchanged : (xs ys : List P) → All Q xs → All R ys → Rectangle Cell xs ys ys xs
  lists_unchanged [] ys h k = empty
  lists_unchanged (x ∷ xs) ys h k = row (lists_unchanged xs ys (All-tail Q x xs h) k) (row_unchanged x ys (All-head Q x xs h) k)

-- neither names the other among its dependencies
pub record AreStrangers (x y : Patch) : Type 0 where
  pub x_named : Contains y.deps x.info → ⊥
  pub y_named : Contains x.deps y.info → ⊥

pub stays_same : (x : Patch) → Stays x x
stays_same x = record { info = refl; deps = refl }

module _ (ps : List Path) where
  apart_of : (f g : Path) → IsApartFrom ps f → IsUnder ps g → Apart f g
  apart_of f g a u = go u.under
    where
      d : Apart f u.top
      d = holds_of (Apart f) ps a.each u.among

      go : Under g u.top → Apart f g
      go (r, e) = record { left = λ v. d.left (under_trans f g u.top v (r, e)); right = λ v. apart_under u.top f r (apart_sym d) (rw e at v) }

  work_aside : (f a b : Path) (w : Work) → Apart a b → Apart f a → Apart f b → WorkThenMove f w a b
  work_aside f a b w m ha hb = record {
    move_apart = m;
    f_not_b = λ e. hb.left (same_under f b e);
    f_not_in_b = not_inside f b hb.left;
    a_not_in_f = not_inside a f ha.right;
    b_not_in_f = not_inside b f hb.right;
    keeps_at_a = λ e. absurd (ha.left (same_under f a e));
  }

  row_aside : (p q : Prim) → IsAside ps p → NamesUnder ps q → MovesOutside q → TableRow p q q p
  row_aside (At f w) (At g v) a n h = let d = apart_of f g a (work_in ps g v n) in two_works (record { differ = λ e. d.left (same_under f g e); apart = λ k. d })
  row_aside (At f w) (Move a b) i n h =
      let da = apart_of f a i (from_in ps a b n) in
      work_move (work_aside f a b w h da (apart_of f b i (to_in ps a b n))) (sym (forward-other a b f da.left))
  row_aside (At f w) (ChangePref name old new) i n h = preference_second tt
  row_aside (Move a b) q i n h = absurd i
  row_aside (ChangePref name old new) q i n h = preference_first h

  -- a primitive of a patch that stands aside
  abbrev pub IsFar : Prim → Type 0
  IsFar p = IsValidPrim p × IsAside ps p

  pair_aside : (p q : Prim) → IsFar p → IsNear ps q → Commutes p q q p
  pair_aside p q h k = record { valid_p = h.0; valid_q = k.0; valid_q' = k.0; valid_p' = h.0; row = row_aside p q h.1 k.1 k.2 }

  lists_aside : (xs ys : List Prim) → All IsFar xs → All (IsNear ps) ys → ListsCommute xs ys ys xs
  lists_aside xs ys h k = lists_unchanged Prim Commutes IsFar (IsNear ps) pair_aside xs ys h k

  far_inv : (p : Prim) → IsFar p → IsFar (inv p)
  far_inv (At f w) h = (valid_inv (At f w) h.0, h.1)
  far_inv (Move a b) h = absurd h.1
  far_inv (ChangePref name old new) h = (valid_inv (ChangePref name old new) h.0, tt)

  far_inverse : (xs : List Prim) → All IsFar xs → All IsFar (inv_all xs)
  far_inverse [] h = All-nil IsFar
  far_inverse (x ∷ xs) h = (all_with IsFar (inv_all xs) (inv x)).1 (far_inverse xs (All-tail IsFar x xs h), far_inv x (All-head IsFar x xs h))

  far_prims : (x : Patch) → StandsAside ps x → All IsFar x.prims
  far_prims x n = holds_of_all IsFar x.prims (λ p c. (holds_of IsValidPrim x.prims n.valid c, holds_of (IsAside ps) x.prims n.each c))

  abbrev pub Far : Placed → Type 0
  Far x = StandsAside ps x.1

  pub aside_commutes : (x y : Placed) → Far x → Near ps y → AreStrangers x.1 y.1 → PlacedCommutes x y y x
  aside_commutes x y h k s = record {
    x_place = refl;
    y_place = refl;
    commutes = record {
      x_named = s.x_named;
      y_named = s.y_named;
      x_stays = stays_same x.1;
      y_stays = stays_same y.1;
      prims = lists_aside x.1.prims y.1.prims (far_prims x.1 h) (near_prims ps y.1 k);
    };
  }

  pub aside_merges : (x y : Placed) → Far x → Near ps y → PlacedMerges x y y x
  aside_merges x y h k = record {
    r_place = refl;
    n_place = refl;
    merges = record {
      r_stays = stays_same x.1;
      n_stays = stays_same y.1;
      prims = lists_aside (inv_all x.1.prims) y.1.prims (far_inverse x.1.prims (far_prims x.1 h)) (near_prims ps y.1 k);
    };
  }
