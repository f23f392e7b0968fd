-- Lists that touch nothing in common commute, and stay as they are.
use Rattle.std.proofs.Common.{drop, ◌≡◌, ◌≢◌, ◌<◌, ◌≤◌, ◌+◌, ℕ, length, take, false, ◌++◌, ◌↔◌, Bool, IsTrue, List, [], ◌∷◌, flat_map, get_or, sym, ap, subst, inl, inr, append_assoc, append-nil, arith, ◌∙◌, true, refl}
use Rattle.std.specs.List.{All, Contains}
use Rattle.std.proofs.Math.Bool.{beq, not}
use Rattle.std.proofs.lemmas.List.Elements.{Contains-get_or, Contains-append_left, Contains-append_right, Contains-append_cases, Contains-push, Contains-push_cases, All-head, All-tail, All-cons, All-nil, All-take}
use Rattle.std.proofs.lemmas.Grind.{flat_map-append}
use Rattle.dm_tree.specs.Paths.{Path, Apart}
use Rattle.dm_tree.proofs.Paths.{forward-other, apart_sym}
use Rattle.dm_prim.specs.Primitives.{Work, Prim, At, Move, ChangePref, inv, inv_all}
use Rattle.dm_prim.specs.Rectangles.{CellRow, none, next, empty, row}
use Rattle.dm_prim.specs.Table.{TableRow, first_above, second_above, hunk_replace, replace_hunk, two_replaces, two_works, work_move, move_work, two_moves, preference_first, preference_second, WorkThenMove, MoveThenMove, MovesOutside}
use Rattle.dm_prim.specs.Commuting.{IsValidPrim, Commutes, ListsCommute}
use Rattle.std.proofs.lemmas.List.{take_all}
use Rattle.dm_prim.specs.Prims.{prim_of, prims_of, path_of, IsWork, NamesAPath, MovesNothing}
use Rattle.dm_prim.specs.declared.primitive.Primitive as code
use Rattle.dm_prim.proofs.ListLemmas.{count_of, prims_more, parted}
use Rattle.dm_prim.proofs.LawProofs.{valid_inv}
use Rattle.dm_prim.specs.Touch.{paths_of, IsTouched, TouchedPaths, Touches, IsApartFrom, AreApart, PassUnchanged, StayTouched, MoveNothing, NamesAmong, IsNamedAmong, InversesTouchTheSame}
use Rattle.dm_prim.proofs.Squares.{not_inside, same_under}

module _ {X : Type 0} (P : X → Type 0) where
  pub holds_of : (xs : List X) {x : X} → All P xs → Contains xs x → P x
  holds_of xs {x} h c = subst P c.2 (h c.0 x c.1)

  pub holds_of_all : (xs : List X) → ((x : X) → Contains xs x → P x) → All P xs
  holds_of_all xs h k d l = h (get_or xs k d) (Contains-get_or xs k d l)

  pub all_with : (xs : List X) (x : X) → All P (xs ++ x ∷ []) ↔ (All P xs × P x)
  all_with xs x = (
    λ h. (holds_of_all xs (λ y c. holds_of (xs ++ x ∷ []) h (Contains-append_left xs (x ∷ []) y c)), holds_of (xs ++ x ∷ []) h (Contains-push xs x)),
    λ h. holds_of_all (xs ++ x ∷ []) (λ y c. elim (Contains-push_cases xs x y c) [ inl d ↦ holds_of xs h.0 d | inr e ↦ subst P e h.1 ]),
  )

work_aside : (f a b : Path) (w : Work) → Apart a b → Apart f a → Apart f b → WorkThenMove f w a b
work_aside f a b w m ha hb = record {
  move_apart = m;
  f_not_b = λ e. hb.left (same_under f b e);
  f_not_in_b = not_inside f b hb.left;
  a_not_in_f = not_inside a f ha.right;
  b_not_in_f = not_inside b f hb.right;
  keeps_at_a = λ e. absurd (ha.left (same_under f a e));
}

move_aside : (a b c d : Path) → Apart a b → Apart c d → Apart a c → Apart a d → Apart b c → Apart b d → MoveThenMove a b c d
move_aside a b c d m n ac ad bc bd = record {
  first_apart = m;
  second_apart = n;
  c_not_b = λ e. bc.left (same_under b c (sym e));
  d_not_a = λ e. ad.left (same_under a d (sym e));
  c_not_a = λ e. ac.left (same_under a c (sym e));
  d_not_b = λ e. bd.left (same_under b d (sym e));
  c_not_in_a = not_inside c a ac.right;
  d_not_in_a = not_inside d a ad.right;
  a_not_in_d = not_inside a d ad.left;
  b_not_in_d = not_inside b d bd.left;
  not_both_inside = λ x y. not_inside a c ac.left x;
}

first_of : (f : Path) (fs : List Path) → Contains (f ∷ fs) f
first_of f fs = (0, omega arith, refl)

second_of : (f g : Path) → Contains (f ∷ g ∷ []) g
second_of f g = (1, omega arith, refl)

-- two primitives that touch nothing in common
row_aside : (p q : Prim) → MovesOutside p → MovesOutside q → ((f g : Path) → Contains (paths_of p) f → Contains (paths_of q) g → Apart f g) → TableRow p q q p
row_aside (At f w) (At g v) hp hq h = let d = h f g (first_of f []) (first_of g []) in two_works (record { differ = λ e. d.left (same_under f g e); apart = λ k. d })
row_aside (At f w) (Move a b) hp hq h =
    let fa = h f a (first_of f []) (first_of a (b ∷ [])) in
    work_move (work_aside f a b w hq fa (h f b (first_of f []) (second_of a b))) (sym (forward-other a b f fa.left))
row_aside (Move a b) (At f w) hp hq h =
    let bf = h b f (second_of a b) (first_of f []) in
    move_work (work_aside f b a w (apart_sym hp) (apart_sym bf) (apart_sym (h a f (first_of a (b ∷ [])) (first_of f [])))) (sym (forward-other b a f bf.right))
row_aside (Move a b) (Move c d) hp hq h =
    let ac = h a c (first_of a (b ∷ [])) (first_of c (d ∷ [])) in
    let ad = h a d (first_of a (b ∷ [])) (second_of c d) in
    let bc = h b c (second_of a b) (first_of c (d ∷ [])) in
    let bd = h b d (second_of a b) (second_of c d) in
    two_moves (move_aside a b c d hp hq ac ad bc bd)
    (sym (forward-other b a c bc.right)) (sym (forward-other b a d bd.right)) (sym (forward-other c d a ac.left)) (sym (forward-other c d b bc.left))
row_aside (ChangePref name old new) q hp hq h = preference_first hq
row_aside (At f w) (ChangePref name old new) hp hq h = preference_second tt
row_aside (Move a b) (ChangePref name old new) hp hq h = preference_second hp

-- lists each pair of which commutes unchanged
row_unchanged : (x : Prim) (ys : List Prim) → ((y : Prim) → Contains ys y → Commutes x y y x) → CellRow Commutes x ys ys x
row_unchanged x [] h = none
row_unchanged x (y ∷ ys) h = next (h y (0, omega arith, refl)) (row_unchanged x ys (λ z c. h z (Contains-append_right (y ∷ []) ys z c)))

lists_unchanged : (xs ys : List Prim) → ((x y : Prim) → Contains xs x → Contains ys y → Commutes x y y x) → ListsCommute xs ys ys xs
lists_unchanged [] ys h = empty
lists_unchanged (x ∷ xs) ys h = row (lists_unchanged xs ys (λ z y c d. h z y (Contains-append_right (x ∷ []) xs z c) d)) (row_unchanged x ys (λ y d. h x y (0, omega arith, refl) d))

-- what a primitive of a list names is touched by the list
pub touched_in : (ps : List Prim) (p : Prim) (f : Path) → Contains ps p → Contains (paths_of p) f → IsTouched ps f
touched_in [] p f (k, l, e) d = absurd (omega (arith, l))
touched_in (q ∷ ps) p f c d = elim (Contains-append_cases (q ∷ []) ps p c) [ inl x ↦ Contains-append_left (paths_of q) (flat_map paths_of ps) f (rw (only x) d) | inr x ↦ Contains-append_right (paths_of q) (flat_map paths_of ps) f (touched_in ps p f x d) ]
  where
    only : Contains (q ∷ []) p → q ≡ p
    only x = elim (Contains-push_cases [] q p x) [ inl (k, l, e) ↦ absurd (omega (arith, l)) | inr e ↦ e ]

pub pass_unchanged : (t u : TouchedPaths) → AreApart t u → PassUnchanged t u
pass_unchanged t u h xs ys a b =
    lists_unchanged xs ys (λ x y c d. record {
      valid_p = holds_of IsValidPrim xs a.valid c;
      valid_q = holds_of IsValidPrim ys b.valid d;
      valid_q' = holds_of IsValidPrim ys b.valid d;
      valid_p' = holds_of IsValidPrim xs a.valid c;
      row = row_aside x y (holds_of MovesOutside xs (a.moves.0 h.0) c) (holds_of MovesOutside ys (b.moves.0 h.1) d)
          (λ f g e i. holds_of (Apart f) u.paths (holds_of (IsApartFrom u.paths) t.paths h.2 ((a.paths f).1 (touched_in xs x f c e))).each ((b.paths g).1 (touched_in ys y g d i)));
    })

-- what work and a move name
pub paths_of_work : (p : Prim) → IsWork p → paths_of p ≡ path_of p ∷ []
paths_of_work (At f w) h = refl
paths_of_work (Move a b) h = elim h [ ]
paths_of_work (ChangePref name old new) h = elim h [ ]

pub still_moves_outside : (p : Prim) → MovesNothing p → MovesOutside p
still_moves_outside (At f w) h = tt
still_moves_outside (Move a b) h = elim h [ ]
still_moves_outside (ChangePref name old new) h = tt

-- a primitive that names no path moves nothing
pub nameless_moves_nothing : (p : Prim) → (NamesAPath p → ⊥) → MovesNothing p
nameless_moves_nothing (At f w) n = tt
nameless_moves_nothing (Move a b) n = absurd (n tt)
nameless_moves_nothing (ChangePref name old new) n = tt

pub paths_of_nameless : (p : Prim) → (NamesAPath p → ⊥) → paths_of p ≡ []
paths_of_nameless (At f w) n = absurd (n tt)
paths_of_nameless (Move a b) n = absurd (n tt)
paths_of_nameless (ChangePref name old new) n = refl

pub paths_of_move : (p : Prim) (a b : Path) → p ≡ Move a b → paths_of p ≡ a ∷ b ∷ []
paths_of_move p a b e = rw e

pub move_moves_outside : (p : Prim) (a b : Path) → p ≡ Move a b → MovesOutside p ↔ Apart a b
move_moves_outside p a b e = rw e (λ h. h, λ h. h)

pub move_moves_something : (p : Prim) (a b : Path) → p ≡ Move a b → {P : Type 0} → IsTrue false ↔ (P × MovesNothing p)
move_moves_something p a b e = rw e (λ x. absurd (cc x), λ x. elim x.1 [ ])

-- one primitive more
module _ (p : Prim) (t : TouchedPaths) (paths : List Path) (moves still : Bool) (valid : IsValidPrim p)
    (more : (f : Path) → Contains paths f ↔ Contains (t.paths ++ paths_of p) f) (outside : IsTrue moves ↔ (IsTrue t.moves_outside × MovesOutside p))
    (work : IsTrue still ↔ (IsTrue t.moves_nothing × MovesNothing p))
    (ps : List Prim) (h : Touches ps t) where
  touched_more : (f : Path) → Contains (t.paths ++ paths_of p) f ↔ Contains (flat_map paths_of ps ++ paths_of p) f
  touched_more f = (
    λ c. elim (Contains-append_cases t.paths (paths_of p) f c) [ inl d ↦ Contains-append_left (flat_map paths_of ps) (paths_of p) f ((h.paths f).0 d) | inr d ↦ Contains-append_right (flat_map paths_of ps) (paths_of p) f d ],
    λ c. elim (Contains-append_cases (flat_map paths_of ps) (paths_of p) f c) [ inl d ↦ Contains-append_left t.paths (paths_of p) f ((h.paths f).1 d) | inr d ↦ Contains-append_right t.paths (paths_of p) f d ],
  )

  touched_by : flat_map paths_of (ps ++ p ∷ []) ≡ flat_map paths_of ps ++ paths_of p
  touched_by = flat_map-append paths_of ps (p ∷ []) ∙ ap (λ z. flat_map paths_of ps ++ z) (append-nil (paths_of p))

  pub touches_more : Touches (ps ++ p ∷ []) (record { paths = paths; moves_outside = moves; moves_nothing = still })
  touches_more = record {
    valid = (all_with IsValidPrim ps p).1 (h.valid, valid);
    paths = λ f. rw touched_by (λ c. (touched_more f).0 ((more f).0 c), λ c. (more f).1 ((touched_more f).1 c));
    moves = (
      λ m. let o = outside.0 m in (all_with MovesOutside ps p).1 (h.moves.0 o.0, o.1),
      λ m. let o = (all_with MovesOutside ps p).0 m in outside.1 (h.moves.1 o.0, o.1),
    );
    works = (
      λ m. let o = work.0 m in (all_with MovesNothing ps p).1 (h.works.0 o.0, o.1),
      λ m. let o = (all_with MovesNothing ps p).0 m in work.1 (h.works.1 o.0, o.1),
    );
  }

-- a path after another
pub two_more : (old one two : List Path) (a b : Path) → ((f : Path) → Contains one f ↔ Contains (old ++ a ∷ []) f) → ((f : Path) → Contains two f ↔ Contains (one ++ b ∷ []) f) →
    (f : Path) → Contains two f ↔ Contains (old ++ a ∷ b ∷ []) f
two_more old one two a b h k f = rw (append_assoc old (a ∷ []) (b ∷ [])) at both
  where
    both : Contains two f ↔ Contains ((old ++ a ∷ []) ++ b ∷ []) f
    both = (
      λ c. elim (Contains-append_cases one (b ∷ []) f ((k f).0 c)) [ inl d ↦ Contains-append_left (old ++ a ∷ []) (b ∷ []) f ((h f).0 d) | inr d ↦ Contains-append_right (old ++ a ∷ []) (b ∷ []) f d ],
      λ c. (k f).1 (elim (Contains-append_cases (old ++ a ∷ []) (b ∷ []) f c) [ inl d ↦ Contains-append_left one (b ∷ []) f ((h f).1 d) | inr d ↦ Contains-append_right one (b ∷ []) f d ]),
    )

pub touches_none : {t : TouchedPaths} → t.paths ≡ [] → t.moves_outside ≡ true → t.moves_nothing ≡ true → Touches [] t
touches_none e m n = record {
  valid = λ k d l. absurd (omega (arith, l));
  paths = λ f. rw e (λ c. c, λ c. c);
  moves = rw m (λ t. λ k d l. absurd (omega (arith, l)), λ h. refl);
  works = rw n (λ t. λ k d l. absurd (omega (arith, l)), λ h. refl);
}

-- the inverse of a list
touched_by_last : (qs : List Prim) (p : Prim) → flat_map paths_of (qs ++ p ∷ []) ≡ flat_map paths_of qs ++ paths_of p
touched_by_last qs p = flat_map-append paths_of qs (p ∷ []) ∙ ap (λ z. flat_map paths_of qs ++ z) (append-nil (paths_of p))

inverse_names : (p : Prim) (f : Path) → Contains (paths_of (inv p)) f ↔ Contains (paths_of p) f
inverse_names (At g w) f = (λ c. c, λ c. c)
inverse_names (ChangePref name old new) f = (λ c. c, λ c. c)
inverse_names (Move a b) f = (turned b a f, turned a b f)
  where
    turned : (a b f : Path) → Contains (a ∷ b ∷ []) f → Contains (b ∷ a ∷ []) f
    turned a b f c = elim (Contains-append_cases (a ∷ []) (b ∷ []) f c) [ inl d ↦ Contains-append_right (b ∷ []) (a ∷ []) f d | inr d ↦ Contains-append_left (b ∷ []) (a ∷ []) f d ]

inverse_outside : (p : Prim) → MovesOutside (inv p) ↔ MovesOutside p
inverse_outside (At f w) = (λ h. h, λ h. h)
inverse_outside (Move a b) = (λ h. apart_sym h, λ h. apart_sym h)
inverse_outside (ChangePref name old new) = (λ h. h, λ h. h)

inverse_still : (p : Prim) → MovesNothing (inv p) ↔ MovesNothing p
inverse_still (At f w) = (λ h. h, λ h. h)
inverse_still (Move a b) = (λ h. h, λ h. h)
inverse_still (ChangePref name old new) = (λ h. h, λ h. h)

inverse_touched : (ps : List Prim) (f : Path) → IsTouched (inv_all ps) f ↔ IsTouched ps f
inverse_touched [] f = (λ c. c, λ c. c)
inverse_touched (p ∷ ps) f = rw (touched_by_last (inv_all ps) (inv p)) (
  λ c. elim (Contains-append_cases (flat_map paths_of (inv_all ps)) (paths_of (inv p)) f c)
      [ inl d ↦ Contains-append_right (paths_of p) (flat_map paths_of ps) f ((inverse_touched ps f).0 d) | inr d ↦ Contains-append_left (paths_of p) (flat_map paths_of ps) f ((inverse_names p f).0 d) ],
  λ c. elim (Contains-append_cases (paths_of p) (flat_map paths_of ps) f c)
      [ inl d ↦ Contains-append_right (flat_map paths_of (inv_all ps)) (paths_of (inv p)) f ((inverse_names p f).1 d) | inr d ↦ Contains-append_left (flat_map paths_of (inv_all ps)) (paths_of (inv p)) f ((inverse_touched ps f).1 d) ],
)

all_of_inverse : (P Q : Prim → Type 0) → ((p : Prim) → P p → Q (inv p)) → (ps : List Prim) → All P ps → All Q (inv_all ps)
all_of_inverse P Q f [] h = λ k d l. absurd (omega (arith, l))
all_of_inverse P Q f (p ∷ ps) h = (all_with Q (inv_all ps) (inv p)).1 (all_of_inverse P Q f ps (All-tail P p ps h), f p (All-head P p ps h))

all_from_inverse : (P Q : Prim → Type 0) → ((p : Prim) → Q (inv p) → P p) → (ps : List Prim) → All Q (inv_all ps) → All P ps
all_from_inverse P Q f [] h = λ k d l. absurd (omega (arith, l))
all_from_inverse P Q f (p ∷ ps) h = let b = (all_with Q (inv_all ps) (inv p)).0 h in All-cons P p ps (f p b.1) (all_from_inverse P Q f ps b.0)

pub inverses_touch_the_same : InversesTouchTheSame
inverses_touch_the_same ps t h = record {
  valid = all_of_inverse IsValidPrim IsValidPrim valid_inv ps h.valid;
  paths = λ f. (λ c. (inverse_touched ps f).1 ((h.paths f).0 c), λ c. (h.paths f).1 ((inverse_touched ps f).0 c));
  moves = (
    λ m. all_of_inverse MovesOutside MovesOutside (λ p. (inverse_outside p).1) ps (h.moves.0 m),
    λ m. h.moves.1 (all_from_inverse MovesOutside MovesOutside (λ p. (inverse_outside p).0) ps m),
  );
  works = (
    λ m. all_of_inverse MovesNothing MovesNothing (λ p. (inverse_still p).1) ps (h.works.0 m),
    λ m. h.works.1 (all_from_inverse MovesNothing MovesNothing (λ p. (inverse_still p).0) ps m),
  );
}

-- lists without moves that commute: every path stays
record Kept (ps ps' : List Prim) : Type 0 where
  valid : All IsValidPrim ps'
  works : All MovesNothing ps'
  paths : flat_map paths_of ps' ≡ flat_map paths_of ps

record KeptOne (p p' : Prim) : Type 0 where
  valid : IsValidPrim p'
  work : MovesNothing p'
  paths : paths_of p' ≡ paths_of p

row_kept : {p q q' p' : Prim} → TableRow p q q' p' → MovesNothing p → MovesNothing q → ((MovesNothing p' × (paths_of p' ≡ paths_of p)) × (MovesNothing q' × (paths_of q' ≡ paths_of q)))
row_kept (first_above a e) h k = ((tt, refl), (tt, refl))
row_kept (second_above a e) h k = ((tt, refl), (tt, refl))
row_kept (hunk_replace a b) h k = ((tt, refl), (tt, refl))
row_kept (replace_hunk a b) h k = ((tt, refl), (tt, refl))
row_kept (two_replaces s) h k = ((tt, refl), (tt, refl))
row_kept (two_works a) h k = ((tt, refl), (tt, refl))
row_kept (work_move a e) h k = elim k [ ]
row_kept (move_work a e) h k = elim h [ ]
row_kept (two_moves a e1 e2 e3 e4) h k = elim h [ ]
row_kept (preference_first a) h k = ((tt, refl), (k, refl))
row_kept (preference_second a) h k = ((h, refl), (tt, refl))

kept_first : {p q q' p' : Prim} → Commutes p q q' p' → MovesNothing p → MovesNothing q → KeptOne p p'
kept_first c h k = let r = row_kept c.row h k in record { valid = c.valid_p'; work = r.0.0; paths = r.0.1 }

kept_second : {p q q' p' : Prim} → Commutes p q q' p' → MovesNothing p → MovesNothing q → KeptOne q q'
kept_second c h k = let r = row_kept c.row h k in record { valid = c.valid_q'; work = r.1.0; paths = r.1.1 }

kept_more : {p p' : Prim} {ps ps' : List Prim} → KeptOne p p' → Kept ps ps' → Kept (p ∷ ps) (p' ∷ ps')
kept_more {p} {p'} {ps} {ps'} a b = record {
  valid = All-cons IsValidPrim p' ps' a.valid b.valid;
  works = All-cons MovesNothing p' ps' a.work b.works;
  paths = ap (λ z. z ++ flat_map paths_of ps') a.paths ∙ ap (λ z. paths_of p ++ z) b.paths;
}

kept_all : (ps : List Prim) → All IsValidPrim ps → All MovesNothing ps → Kept ps ps
kept_all ps h k = record { valid = h; works = k; paths = refl }

kept_on : {p q r : Prim} → KeptOne p q → KeptOne q r → KeptOne p r
kept_on a b = record { valid = b.valid; work = b.work; paths = b.paths ∙ a.paths }

kept_then : {ps qs rs : List Prim} → Kept ps qs → Kept qs rs → Kept ps rs
kept_then a b = record { valid = b.valid; works = b.works; paths = b.paths ∙ a.paths }

cells_kept : {x x' : Prim} {ys ys' : List Prim} → CellRow Commutes x ys ys' x' → IsValidPrim x → MovesNothing x → All IsValidPrim ys → All MovesNothing ys → KeptOne x x' × Kept ys ys'
cells_kept none g h valid works = (record { valid = g; work = h; paths = refl }, kept_all [] valid works)
cells_kept (next {x} {y} {y'} {x1} {x'} {ys} {ys'} c s) g h valid works =
    let k = All-head MovesNothing y ys works in
    let one = kept_first c h k in
    let rest = cells_kept s one.valid one.work (All-tail IsValidPrim y ys valid) (All-tail MovesNothing y ys works) in
    (kept_on one rest.0, kept_more (kept_second c h k) rest.1)

lists_kept : {xs ys ys' xs' : List Prim} → ListsCommute xs ys ys' xs' → All IsValidPrim xs → All MovesNothing xs → All IsValidPrim ys → All MovesNothing ys → Kept xs xs' × Kept ys ys'
lists_kept (empty {ys}) g h valid works = (kept_all [] g h, kept_all ys valid works)
lists_kept (row {x} {x'} {xs} {xs'} {ys} {between} {ys'} r s) g h valid works =
    let below = lists_kept r (All-tail IsValidPrim x xs g) (All-tail MovesNothing x xs h) valid works in
    let above = cells_kept s (All-head IsValidPrim x xs g) (All-head MovesNothing x xs h) below.1.valid below.1.works in
    (kept_more above.0 below.0, kept_then below.1 above.1)

works_move_outside : (ps : List Prim) → All MovesNothing ps → All MovesOutside ps
works_move_outside ps h = holds_of_all MovesOutside ps (λ p c. still_moves_outside p (holds_of MovesNothing ps h c))

kept_touched : (ps ps' : List Prim) (t : TouchedPaths) → IsTrue t.moves_nothing → Touches ps t → Kept ps ps' → Touches ps' t
kept_touched ps ps' t m h k = record {
  valid = k.valid;
  paths = λ f. rw k.paths (h.paths f);
  moves = (λ _. works_move_outside ps' k.works, λ _. h.moves.1 (works_move_outside ps (h.works.0 m)));
  works = (λ _. k.works, λ _. m);
}

pub stay_touched : (t u : TouchedPaths) → MoveNothing t u → StayTouched t u
stay_touched t u m xs ys ys' xs' a b c =
    let k = lists_kept c a.valid (a.works.0 m.0) b.valid (b.works.0 m.1) in
    (kept_touched xs xs' t m.0 a k.0, kept_touched ys ys' u m.1 b k.1)

-- whether a list touches this, asked of each of its primitives and of each path
contains_one : (g f : Path) → Contains (g ∷ []) f → g ≡ f
contains_one g f c = elim (Contains-push_cases [] g f c) [ inl (k, l, e) ↦ absurd (omega (arith, l)) | inr e ↦ e ]

pub names_work : (p : Prim) → IsWork p → (f : Path) → (path_of p ≡ f) ↔ IsTouched (p ∷ []) f
names_work (At g w) h f = (λ e. (0, omega arith, e), contains_one g f)
names_work (Move a b) h f = elim h [ ]
names_work (ChangePref name old new) h f = elim h [ ]

pub names_none : (p : Prim) → (NamesAPath p → ⊥) → (f : Path) → IsTouched (p ∷ []) f → ⊥
names_none p n f c = let e = paths_of_nameless p n in let d = rw (append-nil (paths_of p), e) at c in absurd (omega (arith, d.1))

pub names_first : (p : Prim) → NamesAPath p → IsTouched (p ∷ []) (path_of p)
names_first (At g w) h = (0, omega arith, refl)
names_first (Move a b) h = (0, omega arith, refl)
names_first (ChangePref name old new) h = elim h [ ]

pub names_move : (p : Prim) (a b : Path) → p ≡ Move a b → (f : Path) → (a ≢ f) → (b ≡ f) ↔ IsTouched (p ∷ []) f
names_move p a b e f n = rw e (
  λ i. (1, omega arith, i),
  λ c. elim (Contains-append_cases (a ∷ []) (b ∷ []) f c) [ inl d ↦ absurd (n (contains_one a f d)) | inr d ↦ contains_one b f d ],
)

pub among_work : (paths : List Path) (p : Prim) → IsWork p → Contains paths (path_of p) → NamesAmong paths p
among_work paths (At g w) h c = record { each = All-cons (Contains paths) g [] c (All-nil (Contains paths)) }
among_work paths (Move a b) h c = elim h [ ]
among_work paths (ChangePref name old new) h c = elim h [ ]

pub among_none : (paths : List Path) (p : Prim) → (NamesAPath p → ⊥) → NamesAmong paths p
among_none paths p n = record { each = rw (paths_of_nameless p n) (All-nil (Contains paths)) }

pub among_first : (paths : List Path) (p : Prim) → NamesAPath p → NamesAmong paths p → Contains paths (path_of p)
among_first paths (At g w) n h = All-head (Contains paths) g [] h.each
among_first paths (Move a b) n h = All-head (Contains paths) a (b ∷ []) h.each
among_first paths (ChangePref name old new) n h = elim n [ ]

pub among_move : (paths : List Path) (p : Prim) (a b : Path) → p ≡ Move a b → Contains paths a → Contains paths b ↔ NamesAmong paths p
among_move paths p a b e c = rw e (
  λ d. record { each = All-cons (Contains paths) a (b ∷ []) c (All-cons (Contains paths) b [] d (All-nil (Contains paths))) },
  λ h. All-head (Contains paths) b [] (All-tail (Contains paths) a (b ∷ []) h.each),
)

among_all : (paths : List Path) (ps : List Prim) → All (NamesAmong paths) ps → (f : Path) → IsTouched ps f → Contains paths f
among_all paths [] h f (k, l, e) = absurd (omega (arith, l))
among_all paths (p ∷ ps) h f c = elim (Contains-append_cases (paths_of p) (flat_map paths_of ps) f c)
    [ inl d ↦ holds_of (Contains paths) (paths_of p) (All-head (NamesAmong paths) p ps h).each d | inr d ↦ among_all paths ps (All-tail (NamesAmong paths) p ps h) f d ]

all_among : (paths : List Path) (ps : List Prim) → ((f : Path) → IsTouched ps f → Contains paths f) → All (NamesAmong paths) ps
all_among paths ps h = holds_of_all (NamesAmong paths) ps (λ p c. record { each = holds_of_all (Contains paths) (paths_of p) (λ f d. h f (touched_in ps p f c d)) })

-- a list that is gone through, of which each is in question
module _ {Z : Type 0} (P : Prim → Type 0) (ps : List (code.Primitive Z)) (i : ℕ) where
  pub all_prims_more : (p : code.Primitive Z) → i < length ps → p ≡ get_or ps i p → All P (take i (prims_of ps)) → P (prim_of p) → All P (take (i + 1) (prims_of ps))
  all_prims_more p l e h x = rw (prims_more ps i p l e) ((all_with P (take i (prims_of ps)) (prim_of p)).1 (h, x))

  pub all_prims_at : (p : code.Primitive Z) → i < length ps → p ≡ get_or ps i p → All P (prims_of ps) → P (prim_of p)
  all_prims_at p l e h = ((all_with P (take i (prims_of ps)) (prim_of p)).0 (rw (prims_more ps i p l e) at (All-take P (i + 1) (prims_of ps) h))).1

  pub all_prims : length ps ≤ i → All P (take i (prims_of ps)) → All P (prims_of ps)
  all_prims l h = rw (take_all i (prims_of ps) (rw (count_of ps) l)) at h

pub touches_where : (ps : List Prim) (paths : List Path) (moves outside still work : Bool) → All IsValidPrim ps → All (NamesAmong paths) ps → All (IsNamedAmong ps) paths → IsTrue outside ↔ All MovesOutside ps →
    outside ≡ moves → IsTrue work ↔ All MovesNothing ps → work ≡ still → Touches ps (record { paths = paths; moves_outside = moves; moves_nothing = still })
touches_where ps paths moves outside still work valid among named out e all f = record {
  valid = valid;
  paths = λ f. (λ c. (holds_of (IsNamedAmong ps) paths named c).named, among_all paths ps among f);
  moves = rw (← e) out;
  works = rw (← f) all;
}

pub touches_among : (ps : List Prim) (t : TouchedPaths) → Touches ps t → All (NamesAmong t.paths) ps
touches_among ps t h = all_among t.paths ps (λ f. (h.paths f).1)

pub touches_named : (ps : List Prim) (t : TouchedPaths) → Touches ps t → All (IsNamedAmong ps) t.paths
touches_named ps t h = holds_of_all (IsNamedAmong ps) t.paths (λ f c. record { named = (h.paths f).0 c })

pub same_truth : (a b : Bool) {P : Type 0} → IsTrue a ↔ P → IsTrue b ↔ P → a ≡ b
same_truth true true h k = refl
same_truth true false h k = sym (k.1 (h.0 refl))
same_truth false true h k = h.1 (k.0 refl)
same_truth false false h k = refl

-- one more primitive that is asked for a path
module _ {Z : Type 0} (ps : List (code.Primitive Z)) (i : ℕ) (p : code.Primitive Z) (l : i < length ps) (e : p ≡ get_or ps i p) (f : Path) where
  touched_by_more : flat_map paths_of (take (i + 1) (prims_of ps)) ≡ flat_map paths_of (take i (prims_of ps)) ++ paths_of (prim_of p)
  touched_by_more = ap (flat_map paths_of) (prims_more ps i p l e) ∙ touched_by_last (take i (prims_of ps)) (prim_of p)

  one_touched : IsTouched (prim_of p ∷ []) f ↔ Contains (paths_of (prim_of p)) f
  one_touched = rw (append-nil (paths_of (prim_of p))) (λ c. c, λ c. c)

  pub not_named_more : (IsTouched (take i (prims_of ps)) f → ⊥) → (IsTouched (prim_of p ∷ []) f → ⊥) → IsTouched (take (i + 1) (prims_of ps)) f → ⊥
  not_named_more h k c = elim (Contains-append_cases (flat_map paths_of (take i (prims_of ps))) (paths_of (prim_of p)) f (rw touched_by_more at c)) [ inl d ↦ h d | inr d ↦ k (one_touched.1 d) ]

  pub named_at : IsTouched (prim_of p ∷ []) f → IsTouched (prims_of ps) f
  named_at c = rw (parted ps i p l e, flat_map-append paths_of (take i (prims_of ps)) (prim_of p ∷ drop (i + 1) (prims_of ps)))
      (Contains-append_right (flat_map paths_of (take i (prims_of ps))) (paths_of (prim_of p) ++ flat_map paths_of (drop (i + 1) (prims_of ps))) f
      (Contains-append_left (paths_of (prim_of p)) (flat_map paths_of (drop (i + 1) (prims_of ps))) f (one_touched.0 c)))

pub named_none : {Z : Type 0} (ps : List (code.Primitive Z)) (i : ℕ) (f : Path) → length ps ≤ i → (IsTouched (take i (prims_of ps)) f → ⊥) → IsTouched (prims_of ps) f → ⊥
named_none ps i f l h = rw (take_all i (prims_of ps) (rw (count_of ps) l)) at h

pub beq_same : (a b : Bool) → IsTrue (beq a b) → a ≡ b
beq_same true true h = refl
beq_same true false h = sym h
beq_same false true h = h
beq_same false false h = refl

pub beq_true : (a b : Bool) → a ≡ b → IsTrue (beq a b)
beq_true true true e = refl
beq_true true false e = sym e
beq_true false true e = e
beq_true false false e = refl

pub beq_not : (a b : Bool) → not (beq a b) ≡ false → a ≡ b
beq_not true true e = refl
beq_not true false e = e
beq_not false true e = sym e
beq_not false false e = refl

pub beq_differ : (a b : Bool) → not (beq a b) ≡ true → a ≢ b
beq_differ true true e d = absurd (cc e)
beq_differ true false e d = absurd (cc d)
beq_differ false true e d = absurd (cc d)
beq_differ false false e d = absurd (cc e)
