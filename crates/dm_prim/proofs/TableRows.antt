-- The table and the squares say the same.
use Rattle.std.proofs.Common.{◌≡◌, ◌≢◌, length, inl, inr, sym, ◌∙◌}
use Rattle.dm_tree.proofs.Paths.{apart_sym, inside_or_is, swap, swap_forward}
use Rattle.dm_prim.proofs.Squares.{Beside, Passing, Square, hunk_down, hunk_up, hunk_turned, turned_hunk, replaces, free, then_move, move_then, moves, pref_then, then_pref, clears_moved, clears_back, beside_moved, not_inside, inside_to_under, same_under, passing_moved, swap_back, square_turn, square_inv}
use Rattle.dm_prim.proofs.TurnedLines.{part_back}
use Rattle.dm_tree.specs.Paths.{Path, Under, Inside}
use Rattle.dm_prim.specs.Primitives.{Work, Prim, inv}
use Rattle.dm_prim.specs.Table.{WorkThenMove, MoveThenMove, TableRow, first_above, second_above, hunk_replace, replace_hunk, two_replaces, two_works, work_move, move_work, two_moves, preference_first, preference_second}

-- neither it nor inside it
pub not_under : (p a : Path) → p ≢ a → (Inside p a → ⊥) → Under p a → ⊥
not_under p a n i u = elim (inside_or_is p a u) [ inl e ↦ n e | inr j ↦ i j ]

pub beside_of : (f : Path) (w : Work) (a b : Path) → WorkThenMove f w a b → Beside f w a b
beside_of f w a b c = record {
  move_apart = c.move_apart;
  target = record { left = not_under f b c.f_not_b c.f_not_in_b; right = not_under b f (λ e. c.f_not_b (sym e)) c.b_not_in_f };
  source = c.a_not_in_f;
  keeps_at_a = c.keeps_at_a;
}

pub then_move_from : (f : Path) (w : Work) (a b : Path) → Beside f w a b → WorkThenMove f w a b
then_move_from f w a b s = record {
  move_apart = s.move_apart;
  f_not_b = λ e. s.target.left (same_under f b e);
  f_not_in_b = not_inside f b s.target.left;
  a_not_in_f = s.source;
  b_not_in_f = not_inside b f s.target.right;
  keeps_at_a = s.keeps_at_a;
}

pub passing_from : (a b c d : Path) → MoveThenMove a b c d → Passing b a c d
passing_from a b c d p = record {
  left = apart_sym p.first_apart;
  right = p.second_apart;
  targets = record { left = not_under a d (λ e. p.d_not_a (sym e)) p.a_not_in_d; right = not_under d a p.d_not_a p.d_not_in_a };
  sources = λ e. p.c_not_b (sym e);
  c_off_b = not_under c a p.c_not_a p.c_not_in_a;
  a_off_d = not_under b d (λ e. p.d_not_b (sym e)) p.b_not_in_d;
  not_both = λ x y. elim (inside_or_is a c x) [
    | inl e ↦ p.c_not_a (sym e)
    | inr i ↦ elim (inside_or_is d b y) [ inl e ↦ p.d_not_b e | inr j ↦ p.not_both_inside i j ]
  ];
}

pub moves_then_from : (a b c d : Path) → Passing b a c d → MoveThenMove a b c d
moves_then_from a b c d p = record {
  first_apart = apart_sym p.left;
  second_apart = p.right;
  c_not_b = λ e. p.sources (sym e);
  d_not_a = λ e. p.targets.right (same_under d a e);
  c_not_a = λ e. p.c_off_b (same_under c a e);
  d_not_b = λ e. p.a_off_d (same_under b d (sym e));
  c_not_in_a = not_inside c a p.c_off_b;
  d_not_in_a = not_inside d a p.targets.right;
  a_not_in_d = not_inside a d p.targets.left;
  b_not_in_d = not_inside b d p.a_off_d;
  not_both_inside = λ x y. p.not_both (inside_to_under a c x) (inside_to_under d b y);
}

pub square_from : {p q q' p' : Prim} → TableRow p q q' p' → Square p q q' p'
square_from (first_above {l1 = l1} {l2 = l2} {l2' = m} {o1 = o1} {n1 = n1} {o2 = o2} {n2 = n2} c e) = hunk_down (clears_back l1 l2 m (length o1) (length n1) (length o2) (length n2) c e) e
square_from (second_above c e) = hunk_up c e
square_from (hunk_replace a b) = hunk_turned a b
square_from (replace_hunk {old = old} {new = new} {old' = old'} {new' = new'} {set = set} {o = o} {n = n} a b) = turned_hunk (part_back set n o old old' a) (part_back set n o new new' b)
square_from (two_replaces s) = replaces s
square_from (two_works s) = free s
square_from (work_move {f} {f'} {a} {b} {w} c e) = let h = beside_of f w a b c in then_move h (e ∙ sym (swap_forward a b f h.target.left))
square_from (move_work {f} {f'} {a} {b} {w} c e) = let h = beside_of f w b a c in let k : f' ≡ swap b a f = e ∙ sym (swap_forward b a f h.target.left) in
    move_then (rw k (beside_moved f w b a h)) (swap_back b a f f' h.move_apart k)
square_from (two_moves {a} {b} {c} {d} {a'} {b'} {c'} {d'} p ec ed ea eb) =
    let h = passing_from a b c d p in
    let kc : c' ≡ swap b a c = ec ∙ sym (swap_forward b a c h.c_off_b) in
    let kd : d' ≡ swap b a d = ed ∙ sym (swap_forward b a d h.targets.right) in
    let g : Passing a b c' d' = rw (kc, kd) (passing_moved b a c d h) in
    moves g (swap_back b a c c' h.left kc) (swap_back b a d d' h.left kd)
    (ea ∙ sym (swap_forward c' d' a g.a_off_d)) (eb ∙ sym (swap_forward c' d' b g.targets.left))
square_from (preference_first h) = pref_then h
square_from (preference_second h) = then_pref h

pub row_from : {p q q' p' : Prim} → Square p q q' p' → TableRow p q q' p'
row_from (hunk_down {l1 = l1} {l2 = l2} {l2' = m} {o1 = o1} {n1 = n1} {o2 = o2} {n2 = n2} c e) = first_above (clears_moved l1 l2 m (length o1) (length n1) (length o2) (length n2) c e) e
row_from (hunk_up c e) = second_above c e
row_from (hunk_turned a b) = hunk_replace a b
row_from (turned_hunk {old = old} {new = new} {old' = old'} {new' = new'} {set = set} {o = o} {n = n} a b) = replace_hunk (part_back set o n old old' a) (part_back set o n new new' b)
row_from (replaces s) = two_replaces s
row_from (free s) = two_works s
row_from (pref_then h) = preference_first h
row_from (then_pref h) = preference_second h
row_from (then_move {f} {f'} {a} {b} {w} h e) = work_move (then_move_from f w a b h) (e ∙ swap_forward a b f h.target.left)
row_from (move_then {f} {f'} {a} {b} {w} h e) = let k = beside_moved f w a b h in
    move_work (rw e (then_move_from (swap a b f) w b a k)) (swap_back a b f f' h.move_apart e ∙ rw e (swap_forward b a (swap a b f) k.target.left))
row_from (moves {a} {b} {c} {d} {a'} {b'} {c'} {d'} p ec ed ea eb) =
    let k : Passing b a c' d' = rw (ec, ed) (passing_moved a b c d p) in
    two_moves (moves_then_from a b c' d' k)
    (swap_back a b c c' p.left ec ∙ swap_forward b a c' k.c_off_b) (swap_back a b d d' p.left ed ∙ swap_forward b a d' k.targets.right)
    (ea ∙ swap_forward c d a p.a_off_d) (eb ∙ swap_forward c d b p.targets.left)

pub row_turn : {p q q' p' : Prim} → TableRow p q q' p' → TableRow q' p' p q
row_turn r = row_from (square_turn (square_from r))

pub row_inv : {p q q' p' : Prim} → TableRow p q q' p' → TableRow (inv p) q' q (inv p')
row_inv r = row_from (square_inv (square_from r))
