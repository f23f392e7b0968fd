-- At most one answer: of the table, and of a primitive on a map.
use Rattle.std.proofs.Common.{◌≡◌, ◌≢◌, ℕ, ◌+◌, List, [], ◌∷◌, ◌++◌, length, Option, ◌⊎◌, inl, inr, refl, sym, ap, ap₂, ◌∙◌, append-nil, arith}
use Rattle.std.proofs.lemmas.List.{append_cancel_left, length-append}
use Rattle.dm_prim.proofs.Maps.{path_dec, swaps_from}
use Rattle.dm_prim.proofs.Ends.{split}
use Rattle.dm_prim.proofs.RectangleLemmas.{rectangle_one}
use Rattle.dm_tree.specs.Paths.{Path, forward}
use Rattle.dm_tree.specs.Trees.{Lines, Entry, Map, IsLawful}
use Rattle.dm_tree.specs.Changes.{ReplacesLines}
use Rattle.dm_prim.specs.Primitives.{Work, AddFile, RmFile, AddDir, RmDir, Hunk, Binary, Replace, Prim, At, Move, ChangePref, Changes, Applies}
use Rattle.dm_prim.specs.Table.{LiesAbove, TurnsPart, ShareNoToken, WorkAndWork, WorkThenMove, MoveThenMove, TableRow, first_above, second_above, hunk_replace, replace_hunk, two_replaces, two_works, work_move, move_work, two_moves, preference_first, preference_second, MovesOutside}
use Rattle.dm_prim.specs.Hunks.{ChangePlaces}
use Rattle.dm_prim.specs.Commuting.{Commutes, ListsCommute}
use Rattle.dm_prim.proofs.TurnedLines.{part_one, turned_one}

-- what the table answers for work w, then work v at one path: v', then w'
abbrev pub AtOnePath : Work → Work → Work → Work → Type 0
AtOnePath (Hunk l1 o1 n1) (Hunk l2 o2 n2) v' w' =
    (m : ℕ) × (k : ℕ) × ChangePlaces l1 (length o1) (length n1) l2 (length o2) (length n2) m k × (v' ≡ Hunk m o2 n2) × (w' ≡ Hunk k o1 n1)
AtOnePath (Hunk l old new) (Replace set o n) v' w' =
    (old' : Lines) × (new' : Lines) × TurnsPart set o n old old' × TurnsPart set o n new new' × (v' ≡ Replace set o n) × (w' ≡ Hunk l old' new')
AtOnePath (Replace set o n) (Hunk l old new) v' w' =
    (old' : Lines) × (new' : Lines) × TurnsPart set n o old old' × TurnsPart set n o new new' × (v' ≡ Hunk l old' new') × (w' ≡ Replace set o n)
AtOnePath (Replace set1 o1 n1) (Replace set2 o2 n2) v' w' =
    (set1 ≡ set2) × ShareNoToken o1 n1 o2 n2 × (v' ≡ Replace set2 o2 n2) × (w' ≡ Replace set1 o1 n1)
AtOnePath w v v' w' = ⊥

-- what it answers for work on two paths, or on one
pub data Both (f : Path) (w : Work) (g : Path) (v : Work) (q' p' : Prim) : Type 0 where
  apart : WorkAndWork f w g v → q' ≡ At g v → p' ≡ At f w → Both f w g v q' p'
  at_one : {v' w' : Work} → f ≡ g → AtOnePath w v v' w' → q' ≡ At g v' → p' ≡ At f w' → Both f w g v q' p'

-- what the table answers, by the two primitives
abbrev pub Answer : Prim → Prim → Prim → Prim → Type 0
Answer (At f w) (At g v) q' p' = Both f w g v q' p'
Answer (At f w) (Move a b) q' p' = WorkThenMove f w a b × (q' ≡ Move a b) × (p' ≡ At (forward a b f) w)
Answer (Move a b) (At f w) q' p' = WorkThenMove f w b a × (q' ≡ At (forward b a f) w) × (p' ≡ Move a b)
Answer (Move a b) (Move c d) q' p' = MoveThenMove a b c d × (q' ≡ Move (forward b a c) (forward b a d)) ×
    (p' ≡ Move (forward (forward b a c) (forward b a d) a) (forward (forward b a c) (forward b a d) b))
Answer (ChangePref name old new) q q' p' = MovesOutside q × (q' ≡ q) × (p' ≡ ChangePref name old new)
Answer p (ChangePref name old new) q' p' = MovesOutside p × (q' ≡ ChangePref name old new) × (p' ≡ p)

after_any : (name old new : List ℕ) (p : Prim) → MovesOutside p → Answer p (ChangePref name old new) (ChangePref name old new) p
after_any name old new (At f w) h = (h, refl, refl)
after_any name old new (Move a b) h = (h, refl, refl)
after_any name old new (ChangePref n o w) h = (tt, refl, refl)

pub answer_from : {p q q' p' : Prim} → TableRow p q q' p' → Answer p q q' p'
answer_from (first_above {l1 = l1} {l2' = m} c e) = at_one refl (m, l1, inl (c, e, refl), refl, refl) refl refl
answer_from (second_above {l2 = l2} {l1' = k} c e) = at_one refl (l2, k, inr (c, refl, e), refl, refl) refl refl
answer_from (hunk_replace {old' = old'} {new' = new'} a b) = at_one refl (old', new', a, b, refl, refl) refl refl
answer_from (replace_hunk {old' = old'} {new' = new'} a b) = at_one refl (old', new', a, b, refl, refl) refl refl
answer_from (two_replaces s) = at_one refl (refl, s, refl, refl) refl refl
answer_from (two_works s) = apart s refl refl
answer_from (work_move {w = w} c e) = (c, refl, ap (λ x. At x w) e)
answer_from (move_work {w = w} c e) = (c, ap (λ x. At x w) e, refl)
answer_from (two_moves {a} {b} {c} {d} {a'} {b'} {c'} {d'} p ec ed ea eb) =
    (p, ap₂ Move ec ed, ap₂ Move (ea ∙ rw (ec, ed)) (eb ∙ rw (ec, ed)))
answer_from (preference_first h) = (h, refl, refl)
answer_from (preference_second {name} {old} {new} {p} h) = after_any name old new p h

pub clears_both : (l1 o1 n1 l2 o2 n2 : ℕ) → LiesAbove (l1 + n1) l2 o1 n1 o2 n2 → LiesAbove (l2 + o2) l1 o1 n1 o2 n2 → ⊥
clears_both l1 o1 n1 l2 o2 n2 (inl h) (inl k) = omega arith
clears_both l1 o1 n1 l2 o2 n2 (inl h) (inr k) = omega arith
clears_both l1 o1 n1 l2 o2 n2 (inr h) (inl k) = omega arith
clears_both l1 o1 n1 l2 o2 n2 (inr h) (inr k) = omega arith

places_one : (l1 o1 n1 l2 o2 n2 m k m' k' : ℕ) → ChangePlaces l1 o1 n1 l2 o2 n2 m k → ChangePlaces l1 o1 n1 l2 o2 n2 m' k' → (m ≡ m') × (k ≡ k')
places_one l1 o1 n1 l2 o2 n2 m k m' k' (inl (c, e, i)) (inl (c', e', i')) = (omega (arith, e, e'), i ∙ sym i')
places_one l1 o1 n1 l2 o2 n2 m k m' k' (inl (c, e, i)) (inr (c', e', i')) = absurd (clears_both l1 o1 n1 l2 o2 n2 c c')
places_one l1 o1 n1 l2 o2 n2 m k m' k' (inr (c, e, i)) (inl (c', e', i')) = absurd (clears_both l1 o1 n1 l2 o2 n2 c' c)
places_one l1 o1 n1 l2 o2 n2 m k m' k' (inr (c, e, i)) (inr (c', e', i')) = (e ∙ sym e', omega (arith, i, i'))

-- one answer at one path
at_one_path : (w v v1 w1 v2 w2 : Work) → AtOnePath w v v1 w1 → AtOnePath w v v2 w2 → (v1 ≡ v2) × (w1 ≡ w2)
at_one_path (Hunk l1 o1 n1) (Hunk l2 o2 n2) v1 w1 v2 w2 (m, k, c, a, b) (m', k', c', a', b') =
    let e = places_one l1 (length o1) (length n1) l2 (length o2) (length n2) m k m' k' c c' in
    (a ∙ ap (λ z. Hunk z o2 n2) e.0 ∙ sym a', b ∙ ap (λ z. Hunk z o1 n1) e.1 ∙ sym b')
at_one_path (Hunk l old new) (Replace set o n) v1 w1 v2 w2 (x, y, s, t, a, b) (x', y', s', t', a', b') =
    (a ∙ sym a', b ∙ ap₂ (Hunk l) (part_one set o n old x x' s s') (part_one set o n new y y' t t') ∙ sym b')
at_one_path (Replace set o n) (Hunk l old new) v1 w1 v2 w2 (x, y, s, t, a, b) (x', y', s', t', a', b') =
    (a ∙ ap₂ (Hunk l) (part_one set n o old x x' s s') (part_one set n o new y y' t t') ∙ sym a', b ∙ sym b')
at_one_path (Replace set1 o1 n1) (Replace set2 o2 n2) v1 w1 v2 w2 (e, s, a, b) (e', s', a', b') = (a ∙ sym a', b ∙ sym b')
at_one_path w v v1 w1 v2 w2 h k = absurd h

pub both_one : (f : Path) (w : Work) (g : Path) (v : Work) (q1 p1 q2 p2 : Prim) → Both f w g v q1 p1 → Both f w g v q2 p2 → (q1 ≡ q2) × (p1 ≡ p2)
both_one f w g v q1 p1 q2 p2 (apart s i j) (apart t k l) = (i ∙ sym k, j ∙ sym l)
both_one f w g v q1 p1 q2 p2 (apart s i j) (at_one e h k l) = absurd (s.differ e)
both_one f w g v q1 p1 q2 p2 (at_one e h k l) (apart s i j) = absurd (s.differ e)
both_one f w g v q1 p1 q2 p2 (at_one {v' = v1} {w' = w1} e h k l) (at_one {v' = v2} {w' = w2} e' h' k' l') =
    let s = at_one_path w v v1 w1 v2 w2 h h' in
    (k ∙ ap (At g) s.0 ∙ sym k', l ∙ ap (At f) s.1 ∙ sym l')

pub answer_one : (p q q1 p1 q2 p2 : Prim) → Answer p q q1 p1 → Answer p q q2 p2 → (q1 ≡ q2) × (p1 ≡ p2)
answer_one (At f w) (At g v) q1 p1 q2 p2 x y = both_one f w g v q1 p1 q2 p2 x y
answer_one (At f w) (Move a b) q1 p1 q2 p2 x y = (x.1 ∙ sym y.1, x.2 ∙ sym y.2)
answer_one (Move a b) (At f w) q1 p1 q2 p2 x y = (x.1 ∙ sym y.1, x.2 ∙ sym y.2)
answer_one (Move a b) (Move c d) q1 p1 q2 p2 x y = (x.1 ∙ sym y.1, x.2 ∙ sym y.2)
answer_one (ChangePref name old new) q q1 p1 q2 p2 x y = (x.1 ∙ sym y.1, x.2 ∙ sym y.2)
answer_one (At f w) (ChangePref name old new) q1 p1 q2 p2 x y = (x.1 ∙ sym y.1, x.2 ∙ sym y.2)
answer_one (Move a b) (ChangePref name old new) q1 p1 q2 p2 x y = (x.1 ∙ sym y.1, x.2 ∙ sym y.2)

pub commutes_one : (p q q1 p1 q2 p2 : Prim) → Commutes p q q1 p1 → Commutes p q q2 p2 → (q1 ≡ q2) × (p1 ≡ p2)
commutes_one p q q1 p1 q2 p2 x y = answer_one p q q1 p1 q2 p2 (answer_from x.row) (answer_from y.row)

pub lists_one : {xs ys ys1 xs1 ys2 xs2 : List Prim} → ListsCommute xs ys ys1 xs1 → ListsCommute xs ys ys2 xs2 → (ys1 ≡ ys2) × (xs1 ≡ xs2)
lists_one g h = rectangle_one Prim Commutes commutes_one g h

-- a primitive gives one map at most

pub edits_one : (l : ℕ) (old new ls a b : Lines) → ReplacesLines l old new ls a → ReplacesLines l old new ls b → a ≡ b
edits_one l old new ls a b x y = go (split x.front (old ++ x.back) y.front (old ++ y.back) (sym x.before ∙ y.before) (omega arith))
  where
    nil : (m : Lines) → length m ≡ 0 → m ≡ []
    nil [] e = refl
    nil (z ∷ m) e = absurd (omega arith)

    go : (m : Lines) × (y.front ≡ x.front ++ m) × (old ++ x.back ≡ m ++ (old ++ y.back)) → a ≡ b
    go (m, i, j) =
        let k : length y.front ≡ length x.front + length m = simp length-append at (ap length i) in
        let n : m ≡ [] = nil m (omega arith) in
        let f : y.front ≡ x.front = i ∙ rw n (append-nil x.front) in
        let h : old ++ x.back ≡ old ++ y.back = rw n at j in
        let b' : x.back ≡ y.back = append_cancel_left old x.back y.back h in
        x.after ∙ rw (b', ← f) (sym y.after)

pub changes_one : (w : Work) (e a b : Option Entry) → Changes w e a → Changes w e b → a ≡ b
changes_one AddFile e a b x y = x.1 ∙ sym y.1
changes_one RmFile e a b x y = x.1 ∙ sym y.1
changes_one AddDir e a b x y = x.1 ∙ sym y.1
changes_one RmDir e a b x y = x.1 ∙ sym y.1
changes_one (Hunk l old new) e a b (ls, ls1, i, j, k) (ms, ls2, i', j', k') =
    let s : ms ≡ ls = cc in let t : ls1 ≡ ls2 = edits_one l old new ls ls1 ls2 k (rw s at k') in cc
changes_one (Binary old new) e a b x y = x.1 ∙ sym y.1
changes_one (Replace set old new) e a b (ls, ls1, i, j, k) (ms, ls2, i', j', k') =
    let s : ms ≡ ls = cc in let t : ls1 ≡ ls2 = turned_one set old new ls ls1 ls2 k (rw s at k') in cc

pub applies_one : (p : Prim) (t u v : Map) → IsLawful t → Applies p t u → Applies p t v → (x : Path) → u x ≡ v x
applies_one (At f w) t u v l h k x = go (path_dec x f)
  where
    go : (x ≡ f) ⊎ (x ≢ f) → u x ≡ v x
    go (inl e) = rw e (changes_one w (t f) (u f) (v f) h.here k.here)
    go (inr n) = h.elsewhere x n ∙ sym (k.elsewhere x n)
applies_one (Move a b) t u v l h k x = let s = swaps_from a b t u l h in let r = swaps_from a b t v l k in s.is x ∙ sym (r.is x)
applies_one (ChangePref name old new) t u v l h k x = ap (λ m. m x) (h ∙ sym k)

-- maps that agree at each path are one
pub same_map : (s t : Map) → ((x : Path) → s x ≡ t x) → s ≡ t
same_map s t h = λ i x. h x i
