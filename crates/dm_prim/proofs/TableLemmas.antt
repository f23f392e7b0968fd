-- What the table says of two primitives of each kind.
use Rattle.std.proofs.Common.{◌≡◌, ℕ, ◌<◌, List, length, ◌⊎◌, inl, inr, refl, sym, ap, Option, Some, None, arith}
use Rattle.dm_tree.specs.Paths.{Path, Under, forward}
use Rattle.dm_tree.specs.Validity.{IsValidPath}
use Rattle.dm_tree.specs.Trees.{Lines}
use Rattle.dm_tree.proofs.ValidityLemmas.{valid_parts}
use Rattle.dm_tree.proofs.Paths.{forward-other, apart_sym}
use Rattle.dm_prim.specs.Primitives.{Work, Prim, At, Move, Hunk, Replace, ChangePref}
use Rattle.dm_prim.specs.Table.{TableRow, first_above, second_above, hunk_replace, replace_hunk, two_replaces, two_works, work_move, move_work, two_moves, preference_first, preference_second, MovesOutside, WorkAndWork, WorkThenMove, MoveThenMove, IsHunk, IsReplace, TurnsPart, ShareNoToken}
use Rattle.dm_prim.specs.Commuting.{IsLineNumber, IsValidPrim, Commutes}
use Rattle.dm_prim.specs.Hunks.{HunkParts, TurnsHunk, hunk_of, ChangePlaces}
use Rattle.dm_prim.specs.Replaces.{ReplaceParts, replace_of, words_back}
use Rattle.dm_prim.specs.Prims.{path_of, work_of, IsWork, NamesAPath, MovesNothing, CommutesTo, PairLawsHold}
use Rattle.dm_prim.specs.declared.primitive.Primitive as code
use Rattle.dm_prim.proofs.Single.{AtOnePath, answer_from, Both, apart, at_one}
use Rattle.dm_tokens.specs.Turning.{Turns}
use Rattle.dm_tokens.specs.Validity.{TokenWords}
use Rattle.dm_prim.proofs.TurnedLines.{part_plain, zip_length}
use Rattle.dm_prim.proofs.LawProofs.{pair_laws}

pub laws_hold : {Z : Type 0} (p q : Prim) (r : Option (code.Primitive Z × code.Primitive Z)) → CommutesTo p q r → PairLawsHold p q r
laws_hold p q None h = tt
laws_hold p q (Some r) h = pair_laws h

-- a path that a move leaves alone
pub stays : (a b p : Path) → (Under p a → ⊥) → p ≡ forward a b p
stays a b p h = sym (forward-other a b p h)

-- a hunk stays valid at another path, and at another line
pub valid_at : (h : HunkParts) (p : Path) → IsValidPrim (hunk_of h) → IsValidPath p → IsValidPrim (hunk_of (record h { path = p }))
valid_at h p (a, w) b = (b, w)

pub valid_at_line : (h : HunkParts) (l : ℕ) → IsValidPrim (hunk_of h) → IsLineNumber l → IsValidPrim (hunk_of (record h { line = l }))
valid_at_line h l (a, (n, some, old, new)) m = (a, (m, some, old, new))

-- two hunks of one file
hunk_row : {f g : Path} {l1 l2 : ℕ} {o1 n1 o2 n2 : Lines} {q' p' : Prim} → f ≡ g → TableRow (At f (Hunk l1 o1 n1)) (At g (Hunk l2 o2 n2)) q' p' →
    (m k : ℕ) × ChangePlaces l1 (length o1) (length n1) l2 (length o2) (length n2) m k × (q' ≡ At g (Hunk m o2 n2)) × (p' ≡ At f (Hunk k o1 n1))
hunk_row e (first_above {l1 = l1} {l2' = m} c i) = (m, l1, inl (c, i, refl), refl, refl)
hunk_row e (second_above {l2 = l2} {l1' = k} c i) = (l2, k, inr (c, refl, i), refl, refl)
hunk_row e (two_works s) = absurd (s.differ e)

row_at : (f : Path) (l1 l2 m k : ℕ) (o1 n1 o2 n2 : Lines) → ChangePlaces l1 (length o1) (length n1) l2 (length o2) (length n2) m k →
    TableRow (At f (Hunk l1 o1 n1)) (At f (Hunk l2 o2 n2)) (At f (Hunk m o2 n2)) (At f (Hunk k o1 n1))
row_at f l1 l2 m k o1 n1 o2 n2 (inl (c, i, e)) = rw e (first_above c i)
row_at f l1 l2 m k o1 n1 o2 n2 (inr (c, e, i)) = rw e (second_above c i)

module _ (p q : HunkParts) (l1 o1 n1 l2 o2 n2 : ℕ) (e1 : l1 ≡ p.line) (e2 : o1 ≡ length p.old) (e3 : n1 ≡ length p.new)
    (e4 : l2 ≡ q.line) (e5 : o2 ≡ length q.old) (e6 : n2 ≡ length q.new) (same : p.path ≡ q.path) where
  pub no_places : ((m k : ℕ) → ChangePlaces l1 o1 n1 l2 o2 n2 m k → IsLineNumber m → IsLineNumber k → ⊥) → (q' p' : Prim) → Commutes (hunk_of p) (hunk_of q) q' p' → ⊥
  no_places h q' p' c =
      let r = hunk_row same c.row in
      h r.0 r.1 (rw (e1, e2, e3, e4, e5, e6) r.2) (let f = rw r.3 at c.valid_q' in f.1.0) (let f = rw r.4 at c.valid_p' in f.1.0)

  pub at_places : IsValidPrim (hunk_of p) → IsValidPrim (hunk_of q) → (m k : ℕ) → ChangePlaces l1 o1 n1 l2 o2 n2 m k → IsLineNumber m → IsLineNumber k →
      Commutes (hunk_of p) (hunk_of q) (hunk_of (record q { line = m })) (hunk_of (record p { line = k }))
  at_places gp gq m k h im ik = record {
    valid_p = gp;
    valid_q = gq;
    valid_q' = (gq.0, (im, gq.1.1, gq.1.2, gq.1.3));
    valid_p' = (gp.0, (ik, gp.1.1, gp.1.2, gp.1.3));
    row = rw same (row_at q.path p.line q.line m k p.old p.new q.old q.new (rw (e1, e2, e3, e4, e5, e6) at h));
  }

-- two moves
not_long : (p : Path) → 32 < length p → IsValidPath p → ⊥
not_long p l g = absurd (omega (arith, (valid_parts p g).not_deep))

module _ (a b c d : Path) where
  pub no_move_both : (MoveThenMove a b c d → ⊥) → (q' p' : Prim) → Commutes (Move a b) (Move c d) q' p' → ⊥
  no_move_both h q' p' r = h (answer_from r.row).0

  pub both_moved : (from to x y : Path) → from ≡ forward b a c → to ≡ forward b a d → x ≡ forward from to a → y ≡ forward from to b → MoveThenMove a b c d →
      IsValidPrim (Move a b) → IsValidPrim (Move c d) → IsValidPrim (Move from to) → IsValidPrim (Move x y) → Commutes (Move a b) (Move c d) (Move from to) (Move x y)
  both_moved from to x y ef et ex ey p gp gq gq' gp' = record { valid_p = gp; valid_q = gq; valid_q' = gq'; valid_p' = gp'; row = two_moves p ef et ex ey }

  pub long_from : 32 < length (forward b a c) → (q' p' : Prim) → Commutes (Move a b) (Move c d) q' p' → ⊥
  long_from l q' p' r = let h = answer_from r.row in let g = rw h.1 at r.valid_q' in not_long (forward b a c) l g.0

  pub long_to : 32 < length (forward b a d) → (q' p' : Prim) → Commutes (Move a b) (Move c d) q' p' → ⊥
  long_to l q' p' r = let h = answer_from r.row in let g = rw h.1 at r.valid_q' in not_long (forward b a d) l g.1

  pub long_first_from : (from to : Path) → from ≡ forward b a c → to ≡ forward b a d → 32 < length (forward from to a) → (q' p' : Prim) → Commutes (Move a b) (Move c d) q' p' → ⊥
  long_first_from from to ef et l q' p' r = let h = answer_from r.row in let g = rw h.2 at r.valid_p' in not_long (forward from to a) l (rw (ef, et) g.0)

  pub long_first_to : (from to : Path) → from ≡ forward b a c → to ≡ forward b a d → 32 < length (forward from to b) → (q' p' : Prim) → Commutes (Move a b) (Move c d) q' p' → ⊥
  long_first_to from to ef et l q' p' r = let h = answer_from r.row in let g = rw h.2 at r.valid_p' in not_long (forward from to b) l (rw (ef, et) g.1)

-- work, then a move; and the other way
as_work : (p : Prim) → IsWork p → p ≡ At (path_of p) (work_of p)
as_work (At f w) h = refl
as_work (Move a b) h = absurd h
as_work (ChangePref name old new) h = absurd h

pub work_stays : (p : Prim) (a b : Path) → IsWork p → (f : Path) → f ≡ path_of p → (Under f a → ⊥) → p ≡ At (forward a b (path_of p)) (work_of p)
work_stays (At f w) a b is g e n = ap (λ x. At x w) (stays a b f (rw e at n))
work_stays (Move c d) a b is g e n = absurd is
work_stays (ChangePref name old new) a b is g e n = absurd is

module _ (p : Prim) (a b : Path) (is : IsWork p) where
  pub no_work_move : (WorkThenMove (path_of p) (work_of p) a b → ⊥) → (q' p' : Prim) → Commutes p (Move a b) q' p' → ⊥
  no_work_move n q' p' r = let h = rw (as_work p is) at r.row in n (answer_from h).0

  pub no_move_work : (WorkThenMove (path_of p) (work_of p) b a → ⊥) → (q' p' : Prim) → Commutes (Move a b) p q' p' → ⊥
  no_move_work n q' p' r = let h = rw (as_work p is) at r.row in n (answer_from h).0

  pub long_work_move : 32 < length (forward a b (path_of p)) → (q' p' : Prim) → Commutes p (Move a b) q' p' → ⊥
  long_work_move l q' p' r = let h = answer_from (rw (as_work p is) at r.row) in let g = rw h.2 at r.valid_p' in not_long (forward a b (path_of p)) l g.0

  pub long_move_work : 32 < length (forward b a (path_of p)) → (q' p' : Prim) → Commutes (Move a b) p q' p' → ⊥
  long_move_work l q' p' r = let h = answer_from (rw (as_work p is) at r.row) in let g = rw h.1 at r.valid_q' in not_long (forward b a (path_of p)) l g.0

  pub moved_before : (m : Prim) → m ≡ At (forward a b (path_of p)) (work_of p) → WorkThenMove (path_of p) (work_of p) a b →
      IsValidPrim p → IsValidPrim m → IsValidPath a → IsValidPath b → Commutes p (Move a b) (Move a b) m
  moved_before m e k gp gm ga gb =
      let r : TableRow p (Move a b) (Move a b) m = rw (e, as_work p is) (work_move k refl) in
      record { valid_p = gp; valid_q = (ga, gb); valid_q' = (ga, gb); valid_p' = gm; row = r }

  pub moved_after : (m : Prim) → m ≡ At (forward b a (path_of p)) (work_of p) → WorkThenMove (path_of p) (work_of p) b a →
      IsValidPrim p → IsValidPrim m → IsValidPath a → IsValidPath b → Commutes (Move a b) p m (Move a b)
  moved_after m e k gp gm ga gb =
      let r : TableRow (Move a b) p m (Move a b) = rw (e, as_work p is) (move_work k refl) in
      record { valid_p = (ga, gb); valid_q = gp; valid_q' = gm; valid_p' = (ga, gb); row = r }

-- a hunk stays valid as its lines turn
pub turned_valid : (w : TokenWords) (h k : HunkParts) → IsValidPrim (hunk_of h) → TurnsHunk w h k → IsValidPrim (hunk_of k)
turned_valid w h k (p, (n, some, old, new)) t =
    let x : length k.old ≡ length h.old = zip_length (Turns t.old.tokens.set w.old w.new) h.old k.old t.old.turned in
    let y : length k.new ≡ length h.new = zip_length (Turns t.new.tokens.set w.old w.new) h.new k.new t.new.turned in
    (rw t.path p, (rw t.line n, omega (arith, x, y, some), part_plain w.set w.old w.new h.old k.old t.old old, part_plain w.set w.old w.new h.new k.new t.new new))

-- a hunk and a replace of one file
hunk_row_turned : {f g : Path} {l : ℕ} {old new : Lines} {set o n : List ℕ} {q' p' : Prim} → f ≡ g → TableRow (At f (Hunk l old new)) (At g (Replace set o n)) q' p' →
    (old' : Lines) × (new' : Lines) × TurnsPart set o n old old' × TurnsPart set o n new new'
hunk_row_turned e (hunk_replace {old' = old'} {new' = new'} a b) = (old', new', a, b)
hunk_row_turned e (two_works s) = absurd (s.differ e)

replace_row_turned : {f g : Path} {l : ℕ} {old new : Lines} {set o n : List ℕ} {q' p' : Prim} → f ≡ g → TableRow (At f (Replace set o n)) (At g (Hunk l old new)) q' p' →
    (old' : Lines) × (new' : Lines) × TurnsPart set n o old old' × TurnsPart set n o new new'
replace_row_turned e (replace_hunk {old' = old'} {new' = new'} a b) = (old', new', a, b)
replace_row_turned e (two_works s) = absurd (s.differ e)

module _ (h : HunkParts) (r : ReplaceParts) where
  pub no_hunk_replace : h.path ≡ r.path → ((k : HunkParts) → TurnsHunk r.words h k → ⊥) → (q' p' : Prim) → Commutes (hunk_of h) (replace_of r) q' p' → ⊥
  no_hunk_replace same n q' p' c = let k = hunk_row_turned same c.row in n (record h { old = k.0; new = k.1 }) (record { path = refl; line = refl; old = k.2; new = k.3 })

  pub no_replace_hunk : r.path ≡ h.path → ((k : HunkParts) → TurnsHunk (words_back r.words) h k → ⊥) → (q' p' : Prim) → Commutes (replace_of r) (hunk_of h) q' p' → ⊥
  no_replace_hunk same n q' p' c = let k = replace_row_turned same c.row in n (record h { old = k.0; new = k.1 }) (record { path = refl; line = refl; old = k.2; new = k.3 })

  module _ (k : HunkParts) (valid_h : IsValidPrim (hunk_of h)) (valid_k : IsValidPrim (hunk_of k)) (valid_r : IsValidPrim (replace_of r)) where
    pub hunk_passes : h.path ≡ r.path → TurnsHunk r.words h k → Commutes (hunk_of h) (replace_of r) (replace_of r) (hunk_of k)
    hunk_passes same t = record {
      valid_p = valid_h;
      valid_q = valid_r;
      valid_q' = valid_r;
      valid_p' = valid_k;
      row = rw (t.path, t.line, same) (hunk_replace t.old t.new);
    }

    pub replace_passes : r.path ≡ h.path → TurnsHunk (words_back r.words) h k → Commutes (replace_of r) (hunk_of h) (hunk_of k) (replace_of r)
    replace_passes same t = record {
      valid_p = valid_r;
      valid_q = valid_h;
      valid_q' = valid_k;
      valid_p' = valid_r;
      row = rw (t.path, t.line, same) (replace_hunk t.old t.new);
    }

-- two replaces of one file
replaces_row : {f g : Path} {set1 o1 n1 set2 o2 n2 : List ℕ} {q' p' : Prim} → f ≡ g → TableRow (At f (Replace set1 o1 n1)) (At g (Replace set2 o2 n2)) q' p' → (set1 ≡ set2) × ShareNoToken o1 n1 o2 n2
replaces_row e (two_replaces s) = (refl, s)
replaces_row e (two_works s) = absurd (s.differ e)

module _ (r s : ReplaceParts) (same : r.path ≡ s.path) where
  pub replaces_stay : ((r.words.set ≡ s.words.set) × ShareNoToken r.words.old r.words.new s.words.old s.words.new → ⊥) → (q' p' : Prim) → Commutes (replace_of r) (replace_of s) q' p' → ⊥
  replaces_stay n q' p' c = n (replaces_row same c.row)

  pub replaces_pass : IsValidPrim (replace_of r) → IsValidPrim (replace_of s) → (r.words.set ≡ s.words.set) × ShareNoToken r.words.old r.words.new s.words.old s.words.new →
      Commutes (replace_of r) (replace_of s) (replace_of s) (replace_of r)
  replaces_pass g k (e, n) = record { valid_p = g; valid_q = k; valid_q' = k; valid_p' = g; row = rw (same, e) (two_replaces n) }

-- work and work
module _ (p q : Prim) (ip : IsWork p) (iq : IsWork q) where
  as_works : {q' p' : Prim} → TableRow p q q' p' → Both (path_of p) (work_of p) (path_of q) (work_of q) q' p'
  as_works {q'} {p'} r = let h : TableRow (At (path_of p) (work_of p)) (At (path_of q) (work_of q)) q' p' = rw (← as_work p ip, ← as_work q iq) r in answer_from h

  -- on two paths that may not change places
  pub no_two_paths : (path_of p ≡ path_of q → ⊥) → (WorkAndWork (path_of p) (work_of p) (path_of q) (work_of q) → ⊥) → (q' p' : Prim) → Commutes p q q' p' → ⊥
  no_two_paths d n q' p' c = go (as_works c.row)
    where
      go : Both (path_of p) (work_of p) (path_of q) (work_of q) q' p' → ⊥
      go (apart s i j) = n s
      go (at_one e h i j) = d e

  -- on one path, where one is neither a hunk nor a replace
  pub no_one_path : path_of p ≡ path_of q → ((v w : Work) → AtOnePath (work_of p) (work_of q) v w → ⊥) → (q' p' : Prim) → Commutes p q q' p' → ⊥
  no_one_path e n q' p' c = go (as_works c.row)
    where
      go : Both (path_of p) (work_of p) (path_of q) (work_of q) q' p' → ⊥
      go (apart s i j) = s.differ e
      go (at_one {v' = v} {w' = w} _ h i j) = n v w h

  pub change_places : WorkAndWork (path_of p) (work_of p) (path_of q) (work_of q) → IsValidPrim p → IsValidPrim q → Commutes p q q p
  change_places s gp gq =
      let h : TableRow p q q p = rw (as_work p ip, as_work q iq) (two_works s) in
      record { valid_p = gp; valid_q = gq; valid_q' = gq; valid_p' = gp; row = h }

-- work that passes nothing at its path
pub neither_first : (w v : Work) → (IsHunk w → ⊥) → (IsReplace w → ⊥) → (v' w' : Work) → AtOnePath w v v' w' → ⊥
neither_first (Hunk l o n) v h r v' w' a = h tt
neither_first (Replace s o n) v h r v' w' a = r tt
neither_first w v h r v' w' a = a

pub neither_second : (w v : Work) → (IsHunk v → ⊥) → (IsReplace v → ⊥) → (v' w' : Work) → AtOnePath w v v' w' → ⊥
neither_second w (Hunk l o n) h r v' w' a = h tt
neither_second w (Replace s o n) h r v' w' a = r tt
neither_second (Hunk l old new) v h r v' w' a = a
neither_second (Replace s old new) v h r v' w' a = a
neither_second w v h r v' w' a = a

pub no_before : (p q : Prim) → IsWork p → IsWork q → path_of p ≡ path_of q → (IsHunk (work_of p) → ⊥) → (IsReplace (work_of p) → ⊥) → (q' p' : Prim) → Commutes p q q' p' → ⊥
no_before p q ip iq e h r = no_one_path p q ip iq e (neither_first (work_of p) (work_of q) h r)

pub no_after : (p q : Prim) → IsWork p → IsWork q → path_of p ≡ path_of q → (IsHunk (work_of q) → ⊥) → (IsReplace (work_of q) → ⊥) → (q' p' : Prim) → Commutes p q q' p' → ⊥
no_after p q ip iq e h r = no_one_path p q ip iq e (neither_second (work_of p) (work_of q) h r)

-- a change of a preference, and any primitive
preference_row : (p q : Prim) → (NamesAPath p → ⊥) ⊎ (NamesAPath q → ⊥) → MovesOutside p → MovesOutside q → TableRow p q q p
preference_row (ChangePref name old new) q n hp hq = preference_first hq
preference_row p (ChangePref name old new) n hp hq = preference_second hp
preference_row (At f w) (At g v) n hp hq = absurd (elim n [ inl k ↦ k tt | inr k ↦ k tt ])
preference_row (At f w) (Move a b) n hp hq = absurd (elim n [ inl k ↦ k tt | inr k ↦ k tt ])
preference_row (Move a b) (At f w) n hp hq = absurd (elim n [ inl k ↦ k tt | inr k ↦ k tt ])
preference_row (Move a b) (Move c d) n hp hq = absurd (elim n [ inl k ↦ k tt | inr k ↦ k tt ])

both_outside : {p q q' p' : Prim} → TableRow p q q' p' → MovesOutside p × MovesOutside q
both_outside (first_above c e) = (tt, tt)
both_outside (second_above c e) = (tt, tt)
both_outside (hunk_replace a b) = (tt, tt)
both_outside (replace_hunk a b) = (tt, tt)
both_outside (two_replaces s) = (tt, tt)
both_outside (two_works s) = (tt, tt)
both_outside (work_move c e) = (tt, c.move_apart)
both_outside (move_work c e) = (apart_sym c.move_apart, tt)
both_outside (two_moves c e1 e2 e3 e4) = (c.first_apart, c.second_apart)
both_outside (preference_first h) = (tt, h)
both_outside (preference_second h) = (h, tt)

module _ (p q : Prim) where
  pub not_both_outside : (MovesOutside p × MovesOutside q → ⊥) → (q' p' : Prim) → Commutes p q q' p' → ⊥
  not_both_outside n q' p' r = n (both_outside r.row)

  pub both_stay : (NamesAPath p → ⊥) ⊎ (NamesAPath q → ⊥) → MovesOutside p → MovesOutside q → IsValidPrim p → IsValidPrim q → Commutes p q q p
  both_stay n hp hq gp gq = record { valid_p = gp; valid_q = gq; valid_q' = gq; valid_p' = gp; row = preference_row p q n hp hq }

-- a primitive that names a path and moves nothing is work
pub is_work : (p : Prim) → NamesAPath p → MovesNothing p → IsWork p
is_work (At f w) n h = tt
is_work (Move a b) n h = absurd h
is_work (ChangePref name old new) n h = absurd n
