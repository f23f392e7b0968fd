-- A square: p then q, and q' then p', where the two first sides, p and q', are both seen from the start.
-- So each condition is the same from both sides.
use Rattle.std.proofs.Common.{◌≡◌, ◌≢◌, ℕ, ◌+◌, [], ◌∷◌, ◌++◌, List, length, ◌⊎◌, inl, inr, sym, ◌∙◌, append_assoc, append-nil, arith}
use Rattle.std.proofs.lemmas.List.{append_cancel_left}
use Rattle.dm_tree.proofs.Paths.{under_dec, comparable, apart_sym, inside_or_is, under_refl, under_append, under_trans, swap, swap-left, swap-other, Place, in_left, in_right, outside, place, swap-swap, swap_inj, Clear, swap-append, swap_turn, swap_under, swap_apart}
use Rattle.dm_prim.proofs.Undoing.{swap_left, swap_right}
use Rattle.dm_tree.specs.Paths.{Path, Under, Inside, Apart}
use Rattle.dm_tree.specs.Trees.{Lines}
use Rattle.dm_prim.specs.Primitives.{Work, AddFile, RmFile, AddDir, RmDir, Hunk, Binary, Replace, Prim, At, Move, ChangePref, inv_work, inv}
use Rattle.dm_prim.specs.Table.{IsDirectoryWork, KeepsFile, LiesAbove, TurnsPart, ShareNoToken, WorkAndWork, MovesOutside}
use Rattle.dm_prim.proofs.TurnedLines.{part_back}

-- `move a b` against work on f, from the same start
pub record Beside (f : Path) (w : Work) (a b : Path) : Type 0 where
  pub move_apart : Apart a b
  pub target : Apart f b
  pub source : Inside a f → ⊥
  pub keeps_at_a : f ≡ a → KeepsFile w

-- `move a b` against `move c d`, from the same start
pub record Passing (a b c d : Path) : Type 0 where
  pub left : Apart a b
  pub right : Apart c d
  pub targets : Apart b d
  pub sources : a ≢ c
  pub c_off_b : Under c b → ⊥
  pub a_off_d : Under a d → ⊥
  pub not_both : Under b c → Under d a → ⊥

pub data Square : Prim → Prim → Prim → Prim → Type 0 where
  hunk_down : {f : Path} {l1 l2 l2' : ℕ} {o1 n1 o2 n2 : Lines} →
      LiesAbove (l1 + length o1) l2' (length o1) (length n1) (length o2) (length n2) → l2' + length n1 ≡ l2 + length o1 →
      Square (At f (Hunk l1 o1 n1)) (At f (Hunk l2 o2 n2)) (At f (Hunk l2' o2 n2)) (At f (Hunk l1 o1 n1))
  hunk_up : {f : Path} {l1 l2 l1' : ℕ} {o1 n1 o2 n2 : Lines} →
      LiesAbove (l2 + length o2) l1 (length o1) (length n1) (length o2) (length n2) → l1' + length o2 ≡ l1 + length n2 →
      Square (At f (Hunk l1 o1 n1)) (At f (Hunk l2 o2 n2)) (At f (Hunk l2 o2 n2)) (At f (Hunk l1' o1 n1))
  hunk_turned : {f : Path} {l : ℕ} {old new old' new' : Lines} {set o n : List ℕ} → TurnsPart set o n old old' → TurnsPart set o n new new' →
      Square (At f (Hunk l old new)) (At f (Replace set o n)) (At f (Replace set o n)) (At f (Hunk l old' new'))
  turned_hunk : {f : Path} {l : ℕ} {old new old' new' : Lines} {set o n : List ℕ} → TurnsPart set o n old old' → TurnsPart set o n new new' →
      Square (At f (Replace set o n)) (At f (Hunk l old' new')) (At f (Hunk l old new)) (At f (Replace set o n))
  replaces : {f : Path} {set o1 n1 o2 n2 : List ℕ} → ShareNoToken o1 n1 o2 n2 →
      Square (At f (Replace set o1 n1)) (At f (Replace set o2 n2)) (At f (Replace set o2 n2)) (At f (Replace set o1 n1))
  free : {f g : Path} {w v : Work} → WorkAndWork f w g v → Square (At f w) (At g v) (At g v) (At f w)
  then_move : {f f' a b : Path} {w : Work} → Beside f w a b → f' ≡ swap a b f →
      Square (At f w) (Move a b) (Move a b) (At f' w)
  move_then : {f f' a b : Path} {w : Work} → Beside f w a b → f' ≡ swap a b f →
      Square (Move a b) (At f' w) (At f w) (Move a b)
  moves : {a b c d a' b' c' d' : Path} → Passing a b c d →
      c' ≡ swap a b c → d' ≡ swap a b d → a' ≡ swap c d a → b' ≡ swap c d b →
      Square (Move a b) (Move c' d') (Move c d) (Move a' b')
  pref_then : {name old new : List ℕ} {q : Prim} → MovesOutside q → Square (ChangePref name old new) q q (ChangePref name old new)
  then_pref : {name old new : List ℕ} {p : Prim} → MovesOutside p → Square p (ChangePref name old new) (ChangePref name old new) p

-- symmetry

pub clears_turn : (e m o1 n1 o2 n2 : ℕ) → LiesAbove e m o1 n1 o2 n2 → LiesAbove e m o2 n2 o1 n1
clears_turn e m o1 n1 o2 n2 (inl h) = inl h
clears_turn e m o1 n1 o2 n2 (inr h) = inr (h.0, h.3, h.4, h.1, h.2)

pub separate_turn : (f : Path) (w : Work) (g : Path) (v : Work) → WorkAndWork f w g v → WorkAndWork g v f w
separate_turn f w g v s = record { differ = λ e. s.differ (sym e); apart = λ d. apart_sym (s.apart (elim d [ inl x ↦ inr x | inr x ↦ inl x ])) }

pub passing_turn : (a b c d : Path) → Passing a b c d → Passing c d a b
passing_turn a b c d p = record { left = p.right; right = p.left; targets = apart_sym p.targets; sources = λ e. p.sources (sym e); c_off_b = p.a_off_d; a_off_d = p.c_off_b; not_both = λ x y. p.not_both y x }

pub tokens_turn : (o1 n1 o2 n2 : List ℕ) → ShareNoToken o1 n1 o2 n2 → ShareNoToken o2 n2 o1 n1
tokens_turn o1 n1 o2 n2 s = record { olds = λ e. s.olds (sym e); old_new = λ e. s.new_old (sym e); new_old = λ e. s.old_new (sym e); news = λ e. s.news (sym e) }

pub square_turn : {p q q' p' : Prim} → Square p q q' p' → Square q' p' p q
square_turn (hunk_down {l1 = l1} {l2' = m} {o1 = o1} {n1 = n1} {o2 = o2} {n2 = n2} c e) = hunk_up (clears_turn (l1 + length o1) m (length o1) (length n1) (length o2) (length n2) c) (sym e)
square_turn (hunk_up {l1 = l1} {l2 = l2} {o1 = o1} {n1 = n1} {o2 = o2} {n2 = n2} c e) = hunk_down (clears_turn (l2 + length o2) l1 (length o1) (length n1) (length o2) (length n2) c) (sym e)
square_turn (hunk_turned a b) = turned_hunk a b
square_turn (turned_hunk a b) = hunk_turned a b
square_turn (replaces {o1 = o1} {n1 = n1} {o2 = o2} {n2 = n2} s) = replaces (tokens_turn o1 n1 o2 n2 s)
square_turn (free {f} {g} {w} {v} s) = free (separate_turn f w g v s)
square_turn (then_move b e) = move_then b e
square_turn (move_then b e) = then_move b e
square_turn (moves {a} {b} {c} {d} p ec ed ea eb) = moves (passing_turn a b c d p) ea eb ec ed
square_turn (pref_then h) = then_pref h
square_turn (then_pref h) = pref_then h

-- the first side the other way

pub clears_inv : (e m o1 n1 o2 n2 : ℕ) → LiesAbove e m o1 n1 o2 n2 → LiesAbove e m n1 o1 o2 n2
clears_inv e m o1 n1 o2 n2 (inl h) = inl h
clears_inv e m o1 n1 o2 n2 (inr h) = inr (h.0, h.2, h.1, h.3, h.4)

-- the end of the first hunk after it, from its end before
pub clears_moved : (l1 l2 l2' o1 n1 o2 n2 : ℕ) → LiesAbove (l1 + o1) l2' o1 n1 o2 n2 → l2' + n1 ≡ l2 + o1 → LiesAbove (l1 + n1) l2 o1 n1 o2 n2
clears_moved l1 l2 l2' o1 n1 o2 n2 (inl h) e = inl (omega arith)
clears_moved l1 l2 l2' o1 n1 o2 n2 (inr h) e = inr (omega arith, h.1, h.2, h.3, h.4)

pub clears_back : (l1 l2 l2' o1 n1 o2 n2 : ℕ) → LiesAbove (l1 + n1) l2 o1 n1 o2 n2 → l2' + n1 ≡ l2 + o1 → LiesAbove (l1 + o1) l2' o1 n1 o2 n2
clears_back l1 l2 l2' o1 n1 o2 n2 (inl h) e = inl (omega arith)
clears_back l1 l2 l2' o1 n1 o2 n2 (inr h) e = inr (omega arith, h.1, h.2, h.3, h.4)

pub dir_inv : (w : Work) → IsDirectoryWork (inv_work w) → IsDirectoryWork w
dir_inv AddFile d = d
dir_inv RmFile d = d
dir_inv AddDir d = d
dir_inv RmDir d = d
dir_inv (Hunk l o n) d = d
dir_inv (Binary o n) d = d
dir_inv (Replace s o n) d = d

pub keeps_inv : (w : Work) → KeepsFile w → KeepsFile (inv_work w)
keeps_inv AddFile d = d
keeps_inv RmFile d = d
keeps_inv AddDir d = d
keeps_inv RmDir d = d
keeps_inv (Hunk l o n) d = d
keeps_inv (Binary o n) d = d
keeps_inv (Replace s o n) d = d

pub outside_inv : (p : Prim) → MovesOutside p → MovesOutside (inv p)
outside_inv (At f w) h = tt
outside_inv (Move a b) h = apart_sym h
outside_inv (ChangePref name old new) h = tt

pub separate_inv : (f : Path) (w : Work) (g : Path) (v : Work) → WorkAndWork f w g v → WorkAndWork f (inv_work w) g v
separate_inv f w g v s = record { differ = s.differ; apart = λ d. s.apart (elim d [ inl x ↦ inl (dir_inv w x) | inr x ↦ inr x ]) }

pub beside_inv : (f : Path) (w : Work) (a b : Path) → Beside f w a b → Beside f (inv_work w) a b
beside_inv f w a b s = record { move_apart = s.move_apart; target = s.target; source = s.source; keeps_at_a = λ e. keeps_inv w (s.keeps_at_a e) }

-- no path is inside one that is apart from it
pub not_inside : (a b : Path) → (Under a b → ⊥) → Inside a b → ⊥
not_inside a b h i = h (i.0 ∷ i.1, i.2)

-- a path is not inside itself
pub not_in_itself : (a : Path) → Inside a a → ⊥
not_in_itself a i = let e : i.0 ∷ i.1 ≡ [] = append_cancel_left a (i.0 ∷ i.1) [] (sym i.2 ∙ sym (append-nil a)) in cc

pub beside_clear : (f : Path) (w : Work) (a b : Path) → Beside f w a b → Clear a b f
beside_clear f w a b s = record { left = s.source; right = not_inside b f s.target.right }

pub clear_ends : (a b : Path) → Apart a b → Clear a b a × Clear a b b
clear_ends a b d = (record { left = not_in_itself a; right = not_inside b a d.right }, record { left = not_inside a b d.left; right = not_in_itself b })

pub beside_moved : (f : Path) (w : Work) (a b : Path) → Beside f w a b → Beside (swap a b f) w b a
beside_moved f w a b s = record {
  move_apart = apart_sym s.move_apart;
  target = rw (swap_right a b s.move_apart) at (swap_apart a b f b s.move_apart (beside_clear f w a b s) (clear_ends a b s.move_apart).1 s.target);
  source = λ i. s.source (i.0, i.1, swap_inj a b a (f ++ i.0 ∷ i.1) s.move_apart (swap_left a b ∙ i.2 ∙ sym (swap-append a b f (i.0 ∷ i.1) s.move_apart (beside_clear f w a b s))));
  keeps_at_a = λ e. s.keeps_at_a (swap_inj a b f a s.move_apart (e ∙ sym (swap_left a b)));
}

-- moves, seen from the far side of the first

pub inside_under : (a b : Path) → Inside a b → Under b a → ⊥
inside_under a b i u = let e : b ≡ a ++ u.0 = u.1 in let f : a ≡ b ++ i.0 ∷ i.1 = i.2 in
    not_in_itself b (i.0, i.1 ++ u.0, rw f at e ∙ append_assoc b (i.0 ∷ i.1) u.0)

pub inside_to_under : (a b : Path) → Inside a b → Under a b
inside_to_under a b i = (i.0 ∷ i.1, i.2)

pub under_front : (p a : Path) (r : Path) → Under p (a ++ r) → Under p a
under_front p a r u = under_trans p (a ++ r) a u (under_append a r)

pub clear_moved : (a b p : Path) → Apart a b → Clear a b p → Clear b a (swap a b p)
clear_moved a b p d c = record {
  left = λ i. c.left (i.0, i.1, swap_inj a b a (p ++ i.0 ∷ i.1) d (swap_left a b ∙ i.2 ∙ sym (swap-append a b p (i.0 ∷ i.1) d c)));
  right = λ i. c.right (i.0, i.1, swap_inj a b b (p ++ i.0 ∷ i.1) d (swap_right a b d ∙ i.2 ∙ sym (swap-append a b p (i.0 ∷ i.1) d c)));
}

pub passing_clear : (a b c d : Path) → Passing a b c d → Clear a b d
passing_clear a b c d p = record { left = not_inside a d p.a_off_d; right = not_inside b d p.targets.left }

pub passing_moved : (a b c d : Path) → Passing a b c d → Passing b a (swap a b c) (swap a b d)
passing_moved a b c d p = record {
  left = apart_sym p.left;
  right = record {
    left = λ u. p.right.left (swap_under a b c d p.left hd u);
    right = λ u. back (place a b c) (place a b d) u;
  };
  targets = rw (swap_right a b p.left) at (swap_apart a b b d p.left (clear_ends a b p.left).1 hd p.targets);
  sources = λ e. p.sources (swap_inj a b a c p.left (swap_left a b ∙ e));
  c_off_b = λ u. p.c_off_b (swap_under a b c b p.left (clear_ends a b p.left).1 (rw (swap_right a b p.left) u));
  a_off_d = λ u. p.a_off_d (swap_under a b a d p.left hd (rw (swap_left a b) u));
  not_both = λ x y. not_both (place a b c) x (swap_under a b d a p.left (clear_ends a b p.left).0 (rw (swap_left a b) y));
}
  where
    hd : Clear a b d
    hd = passing_clear a b c d p

    back : Place a b c → Place a b d → Under (swap a b d) (swap a b c) → ⊥
    back (in_right r e) y u = p.c_off_b (r, e)
    back (in_left r e) (in_right s f) u = p.targets.right (s, f)
    back (in_left r e) (in_left s f) u = p.right.right (swap_under a b d c p.left (record { left = λ i. inside_under a c i (r, e); right = λ i. p.left.right (under_trans b c a (inside_to_under b c i) (r, e)) }) u)
    back (in_left r e) (outside h k) u = let v : Under d (b ++ r) = rw (e, swap-other a b d h k, swap-left a b r) at u in k (under_front d b r v)
    back (outside h k) (in_right s f) u = p.targets.right (s, f)
    back (outside h k) (in_left s f) u = let v : Under (b ++ s) c = rw (swap-other a b c h k, f, swap-left a b s) at u in
        elim (comparable b c s v.0 v.1) [ inl x ↦ p.not_both x (s, f) | inr x ↦ k x ]
    back (outside h k) (outside x y) u = p.right.right (rw (swap-other a b c h k, swap-other a b d x y) at u)

    not_both : Place a b c → Under a (swap a b c) → Under d a → ⊥
    not_both (in_right r e) x y = p.c_off_b (r, e)
    not_both (in_left r e) x y = let v : Under a (b ++ r) = rw (e, swap-left a b r) at x in p.left.left (under_front a b r v)
    not_both (outside h k) x y = let v : Under a c = rw (swap-other a b c h k) at x in p.right.right (under_trans d a c y v)

-- one of the two moves leaves the other alone
pub passing_kind : (a b c d : Path) → Passing a b c d → Clear a b c ⊎ Clear c d a
passing_kind a b c d p = go (under_dec a c) (under_dec b c)
  where
    go : Under a c ⊎ (Under a c → ⊥) → Under b c ⊎ (Under b c → ⊥) → Clear a b c ⊎ Clear c d a
    go (inl u) _ = inr (record { left = λ i. inside_under c a i u; right = λ i. p.right.right (under_trans d a c (inside_to_under d a i) u) })
    go (inr h) (inl u) = inr (record { left = λ i. p.left.right (under_trans b c a u (inside_to_under c a i)); right = λ i. p.not_both u (inside_to_under d a i) })
    go (inr h) (inr k) = inl (record { left = not_inside a c h; right = not_inside b c k })

pub same_under : (a b : Path) → a ≡ b → Under a b
same_under a b e = rw e (under_refl b)

pub passing_still : (a b c d : Path) → Passing a b c d → Clear a b c → (swap c d a ≡ a) × (swap c d b ≡ b)
passing_still a b c d p h = (swap-other c d a (off a p.sources h.left) p.a_off_d, swap-other c d b (off b (λ e. p.c_off_b (same_under c b (sym e))) h.right) p.targets.left)
  where
    off : (x : Path) → x ≢ c → (Inside x c → ⊥) → Under x c → ⊥
    off x n i u = elim (inside_or_is x c u) [ inl e ↦ n e | inr j ↦ i j ]

-- the second move takes the ends of the first to the same places from either side
pub passing_ends : (a b c d : Path) → Passing a b c d → (swap (swap a b c) (swap a b d) a ≡ swap c d a) × (swap (swap a b c) (swap a b d) b ≡ swap c d b)
passing_ends a b c d p = go (passing_kind a b c d p)
  where
    go : Clear a b c ⊎ Clear c d a → (swap (swap a b c) (swap a b d) a ≡ swap c d a) × (swap (swap a b c) (swap a b d) b ≡ swap c d b)
    go (inl h) = let x = passing_still a b c d p h in let y = passing_still b a (swap a b c) (swap a b d) (passing_moved a b c d p) (clear_moved a b c p.left h) in (y.1 ∙ sym x.0, y.0 ∙ sym x.1)
    go (inr h) = let x = passing_still c d a b (passing_turn a b c d p) h in (rw (x.0, x.1), rw (x.0, x.1))

pub swap_back : (a b p q : Path) → Apart a b → q ≡ swap a b p → p ≡ swap b a q
swap_back a b p q d e = sym (rw e (rw (swap_turn b a (swap a b p) (apart_sym d)) (swap-swap a b p d)))

pub square_inv : {p q q' p' : Prim} → Square p q q' p' → Square (inv p) q' q (inv p')
square_inv (hunk_down {l1 = l1} {l2 = l2} {l2' = m} {o1 = o1} {n1 = n1} {o2 = o2} {n2 = n2} c e) =
    hunk_down (clears_inv (l1 + length n1) l2 (length o1) (length n1) (length o2) (length n2) (clears_moved l1 l2 m (length o1) (length n1) (length o2) (length n2) c e)) (sym e)
square_inv (hunk_up {l1 = l1} {l2 = l2} {o1 = o1} {n1 = n1} {o2 = o2} {n2 = n2} c e) = hunk_up (clears_inv (l2 + length o2) l1 (length o1) (length n1) (length o2) (length n2) c) e
square_inv (hunk_turned a b) = hunk_turned b a
square_inv (turned_hunk {old = old} {new = new} {old' = old'} {new' = new'} {set = set} {o = o} {n = n} a b) = turned_hunk (part_back set o n old old' a) (part_back set o n new new' b)
square_inv (replaces s) = replaces (record { olds = s.new_old; old_new = s.news; new_old = s.olds; news = s.old_new })
square_inv (free {f} {g} {w} {v} s) = free (separate_inv f w g v s)
square_inv (then_move {f} {f'} {a} {b} {w} h e) = then_move (beside_inv f w a b h) e
square_inv (move_then {f} {f'} {a} {b} {w} h e) = move_then (rw e (beside_moved f w a b h)) (swap_back a b f f' h.move_apart e)
square_inv (moves {a} {b} {c} {d} {a'} {b'} {c'} {d'} p ec ed ea eb) =
    moves (rw (ec, ed) (passing_moved a b c d p)) (swap_back a b c c' p.left ec) (swap_back a b d d' p.left ed)
    (eb ∙ rw (ec, ed) (sym (passing_ends a b c d p).1)) (ea ∙ rw (ec, ed) (sym (passing_ends a b c d p).0))
square_inv (pref_then h) = pref_then h
square_inv (then_pref {p = p} h) = then_pref (outside_inv p h)
