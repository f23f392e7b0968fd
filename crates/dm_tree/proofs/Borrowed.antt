-- Lines of a text that are borrowed, as bytes and ends that are counted from a place.
use Rattle.std.proofs.Common.{◌≡◌, ℕ, ◌+◌, ◌-◌, ◌^◌, ◌<◌, ◌≤◌, List, ◌++◌, length, take, drop, get_or, map, min, suc, sym, ap, ap₂, subst, ◌∙◌, arith, length-append, length-drop}
use Rattle.std.specs.List.{All, EachIndex, concat}
use Rattle.std.proofs.Math.Seq.{take-add, take-append_seam, drop-append_seam}
use Rattle.std.proofs.lemmas.List.{take_min, drop_min, ext_get_or}
use Rattle.dm_tree.specs.Trees.{Lines}
use Rattle.dm_tree.specs.Texts.{LaidOutFrom, ends_from, cut, begin_of}
use Rattle.dm_tree.proofs.Texts.{cut-ends, concat-append, length-ends_from, get_or-ends_from, take-begin_of, drop-begin_of, begin_of-le, begin_of-mono}
use Rattle.dm_tree.proofs.Splices.{take-ends_from, drop-ends_from, ends_from-move, ends_from-within}

module _ (n : ℕ) (run ends : List ℕ) (ls : Lines) where
  -- they are seen as the lines that they hold
  pub view_from : LaidOutFrom n run ends ls → cut n ends run ≡ ls
  view_from h = ap₂ (λ e r. cut n e r) h.placed h.whole ∙ cut-ends n ls

  pub valid_from : LaidOutFrom n run ends ls → LaidOutFrom n run ends (cut n ends run)
  valid_from h = subst (λ (x : Lines). LaidOutFrom n run ends x) (sym (view_from h)) h

  pub held_from : LaidOutFrom n run ends (cut n ends run) → cut n ends run ≡ ls → LaidOutFrom n run ends ls
  held_from h e = subst (λ (x : Lines). LaidOutFrom n run ends x) e h

  pub length-held_from : LaidOutFrom n run ends ls → length ends ≡ length ls
  length-held_from h = ap length h.placed ∙ length-ends_from n ls

  pub held_behind : LaidOutFrom n run ends ls → EachIndex ends (λ k. n ≤ get_or ends k 0)
  held_behind h = subst (λ (z : List ℕ). EachIndex z (λ k. n ≤ get_or z k 0)) (sym h.placed) (λ k lt. (ends_from-within n ls k 0 lt).0)

-- where a line begins, counted from another
pub begin_of-add : (ls : Lines) (i k : ℕ) → begin_of ls (i + k) ≡ begin_of ls i + begin_of (drop i ls) k
begin_of-add ls i k = ap (λ z. length (concat z)) (take-add i k ls) ∙ ap length (concat-append (take i ls) (take k (drop i ls))) ∙ length-append (concat (take i ls)) (concat (take k (drop i ls)))

-- where a line begins is told by the end before it
pub begin_read : (n i d : ℕ) (ends : List ℕ) (ls : Lines) → 0 < i → i ≤ length ends → ends ≡ ends_from n ls → get_or ends (i - 1) d ≡ n + begin_of ls i
begin_read n i d ends ls some le e =
    let j : suc (i - 1) ≡ i = omega arith in
    ap (λ z. get_or z (i - 1) d) e ∙ get_or-ends_from n ls (i - 1) d (omega (arith, some, le, ap length e, length-ends_from n ls)) ∙ ap (λ k. n + begin_of ls k) j

-- the lines from start to before end, as many as there are
pub clamped : (ls : Lines) (start end i j : ℕ) → start ≤ end → i ≡ min start (length ls) → j ≡ min end (length ls) → take (j - i) (drop i ls) ≡ take (end - start) (drop start ls)
clamped ls start end i j order a b =
    ap (λ z. take (j - i) z) (ap (λ k. drop k ls) a ∙ drop_min start ls)
    ∙ ap (λ k. take k (drop start ls)) (omega (arith, a, b, length-drop start ls))
    ∙ take_min (end - start) (drop start ls)

module _ (n : ℕ) (run ends : List ℕ) (ls : Lines) (h : LaidOutFrom n run ends ls) where
  -- the lines from i to before j
  pub holds_within : (i j from to : ℕ) → i ≤ j → j ≤ length ls → from ≡ n + begin_of ls i → to ≡ n + begin_of ls j
      → LaidOutFrom from (take (to - n - (from - n)) (drop (from - n) run)) (take (j - i) (drop i ends)) (take (j - i) (drop i ls))
  holds_within i j from to order le a b = record { whole = whole; placed = placed }
    where
      size : to - n - (from - n) ≡ begin_of (drop i ls) (j - i)
      size =
          let at : i + (j - i) ≡ j = omega arith in
          let far : begin_of ls j ≡ begin_of ls i + begin_of (drop i ls) (j - i) = ap (begin_of ls) (sym at) ∙ begin_of-add ls i (j - i) in
          omega (arith, a, b, far)

      whole : take (to - n - (from - n)) (drop (from - n) run) ≡ concat (take (j - i) (drop i ls))
      whole =
          let start : from - n ≡ begin_of ls i = omega (arith, a) in
          ap₂ (λ k x. take (to - n - (from - n)) (drop k x)) start h.whole ∙ ap₂ take size (drop-begin_of ls i) ∙ take-begin_of (drop i ls) (j - i)

      placed : take (j - i) (drop i ends) ≡ ends_from from (take (j - i) (drop i ls))
      placed =
          ap (λ z. take (j - i) (drop i z)) h.placed ∙ ap (take (j - i)) (drop-ends_from n i ls ∙ ap (λ k. ends_from k (drop i ls)) (sym a))
          ∙ take-ends_from from (j - i) (drop i ls)

  pub begin-within : (i j from to : ℕ) → i ≤ j → j ≤ length ls → from ≡ n + begin_of ls i → to ≡ n + begin_of ls j → (n ≤ from) × (from ≤ to) × (to - n ≤ length run)
  begin-within i j from to order le a b =
      (omega (arith, a), omega (arith, a, b, begin_of-mono ls i j order), omega (arith, b, begin_of-le ls j, ap length h.whole))

-- the same ends, each counted from its own place, and the same bytes, are the same lines
pub same_lines : (n m : ℕ) (run ends run' ends' : List ℕ) (ls os : Lines) → LaidOutFrom n run ends ls → LaidOutFrom m run' ends' os → length ends ≡ length ends' → run ≡ run' → EachIndex ends (λ k. get_or ends k 0 - n ≡ get_or ends' k 0 - m) → ls ≡ os
same_lines n m run ends run' ends' ls os h f size bytes each =
    sym (cut-ends 0 ls) ∙ ap₂ (λ e r. cut 0 e r) places (sym h.whole ∙ bytes ∙ f.whole) ∙ cut-ends 0 os
  where
    one : (n : ℕ) (ls : Lines) (k : ℕ) → k < length ls → get_or (ends_from 0 ls) k 0 ≡ get_or (ends_from n ls) k 0 - n
    one n ls k lt = omega (arith, get_or-ends_from n ls k 0 lt, get_or-ends_from 0 ls k 0 lt)

    sizes : length ls ≡ length os
    sizes = omega (arith, size, length-held_from n run ends ls h, length-held_from m run' ends' os f)

    places : ends_from 0 ls ≡ ends_from 0 os
    places =
        ext_get_or 0 (ends_from 0 ls) (ends_from 0 os) (length-ends_from 0 ls ∙ sizes ∙ sym (length-ends_from 0 os))
        (λ k lt. let less : k < length ls = omega (arith, lt, length-ends_from 0 ls) in
        one n ls k less ∙ ap (λ z. get_or z k 0 - n) (sym h.placed) ∙ each k (omega (arith, less, length-held_from n run ends ls h)) ∙ ap (λ z. get_or z k 0 - m) f.placed ∙ sym (one m os k (omega (arith, less, sizes))))

pub same_ends : (n m : ℕ) (run ends run' ends' : List ℕ) (ls os : Lines) → LaidOutFrom n run ends ls → LaidOutFrom m run' ends' os → ls ≡ os → EachIndex ends (λ k. get_or ends k 0 - n ≡ get_or ends' k 0 - m)
same_ends n m run ends run' ends' ls os h f same k lt =
    let less : k < length ls = omega (arith, lt, length-held_from n run ends ls h) in
    let here : get_or ends k 0 ≡ n + begin_of ls (suc k) = ap (λ z. get_or z k 0) h.placed ∙ get_or-ends_from n ls k 0 less in
    let there : get_or ends' k 0 ≡ m + begin_of os (suc k) = ap (λ z. get_or z k 0) f.placed ∙ get_or-ends_from m os k 0 (omega (arith, less, ap length same)) in
    omega (arith, here, there, ap (λ z. begin_of z (suc k)) same)

-- the ends once they are moved to count from elsewhere
module _ (n m : ℕ) (run ends old : List ℕ) (ls : Lines) (h : LaidOutFrom n run ends ls) (start : ℕ) (at : start ≡ length old) where
  pub copied_fit : m + length (concat ls) < 2 ^ 64 → All (λ e. (n ≤ e) × (e - n + m < 2 ^ 64)) (drop start (old ++ ends))
  copied_fit fits =
      subst (λ (z : List ℕ). All (λ e. (n ≤ e) × (e - n + m < 2 ^ 64)) z) (sym (behind ∙ h.placed))
      (λ k d lt. let w = ends_from-within n ls k d lt in (w.0, omega (arith, w.0, w.1, fits)))
    where
      behind : drop start (old ++ ends) ≡ ends
      behind = ap (λ k. drop k (old ++ ends)) at ∙ drop-append_seam old ends

  pub copied_ends : take start (old ++ ends) ++ map (λ e. e - n + m) (drop start (old ++ ends)) ≡ old ++ ends_from m ls
  copied_ends =
      ap₂ (λ k j. take k (old ++ ends) ++ map (λ e. e - n + m) (drop j (old ++ ends))) at at
      ∙ ap₂ (λ x y. x ++ map (λ e. e - n + m) y) (take-append_seam old ends) (drop-append_seam old ends)
      ∙ ap (λ y. old ++ map (λ e. e - n + m) y) h.placed ∙ ap (λ y. old ++ y) (ends_from-move n m n m ls (omega arith) (omega arith))
