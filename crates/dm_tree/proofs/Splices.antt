-- Lines put in place of others, as a change of the run and of the ends.
use Rattle.std.proofs.Common.{◌≡◌, ℕ, ◌+◌, ◌-◌, ◌^◌, ◌<◌, ◌≤◌, List, [], ◌∷◌, ◌++◌, length, take, drop, get_or, map, zero, suc, refl, sym, ap, ap₂, subst, ◌∙◌, arith, length-append, add-zero}
use Rattle.std.specs.List.{All, concat, splice}
use Rattle.dm_tree.specs.Trees.{Lines}
use Rattle.dm_tree.specs.Texts.{LaidOut, ends_from, begin_of}
use Rattle.dm_tree.proofs.Texts.{concat-append, ends_from-append, length-ends_from, get_or-ends_from, begin_of-le, take-begin_of, drop-begin_of}

pub take-ends_from : (n i : ℕ) (ls : Lines) → take i (ends_from n ls) ≡ ends_from n (take i ls)
take-ends_from n zero ls = refl
take-ends_from n (suc i) [] = refl
take-ends_from n (suc i) (l ∷ ls) = ap (λ z. (n + length l) ∷ z) (take-ends_from (n + length l) i ls)

pub drop-ends_from : (n i : ℕ) (ls : Lines) → drop i (ends_from n ls) ≡ ends_from (n + begin_of ls i) (drop i ls)
drop-ends_from n zero ls = ap (λ k. ends_from k ls) (sym (add-zero n))
drop-ends_from n (suc i) [] = refl
drop-ends_from n (suc i) (l ∷ ls) =
    let same : (n + length l) + begin_of ls i ≡ n + length (l ++ concat (take i ls)) = omega (arith, length-append l (concat (take i ls))) in
    drop-ends_from (n + length l) i ls ∙ ap (λ k. ends_from k (drop i ls)) same

pub ends_from-add : (a m k : ℕ) (ls : Lines) → a + m ≡ k → map (λ e. a + e) (ends_from m ls) ≡ ends_from k ls
ends_from-add a m k [] e = refl
ends_from-add a m k (l ∷ ls) e = ap₂ (λ x y. x ∷ y) (omega arith) (ends_from-add a (m + length l) (k + length l) ls (omega arith))

pub ends_from-move : (a b m k : ℕ) (ls : Lines) → a ≤ m → m - a + b ≡ k → map (λ e. e - a + b) (ends_from m ls) ≡ ends_from k ls
ends_from-move a b m k [] le e = refl
ends_from-move a b m k (l ∷ ls) le e = ap₂ (λ x y. x ∷ y) (omega arith) (ends_from-move a b (m + length l) (k + length l) ls (omega arith) (omega arith))

-- an end is behind the begin of its lines, and not behind their last byte
pub ends_from-within : (n : ℕ) (ls : Lines) (k d : ℕ) → k < length (ends_from n ls) → (n ≤ get_or (ends_from n ls) k d) × (get_or (ends_from n ls) k d ≤ n + length (concat ls))
ends_from-within n ls k d lt =
    let is = get_or-ends_from n ls k d (omega (arith, lt, length-ends_from n ls)) in
    (omega (arith, is), omega (arith, is, begin_of-le ls (suc k)))

module _ (run ends frun fends : List ℕ) (ls fs : Lines) (h : LaidOut run ends ls) (f : LaidOut frun fends fs) (i j from to added : ℕ) (at : from ≡ begin_of ls i) (until : to ≡ begin_of ls j) (size : added ≡ length frun) where
  module _ (run' : List ℕ) (e : run' ≡ splice run from to frun) where
    spliced_run : run' ≡ concat (splice ls i j fs)
    spliced_run =
        e ∙ ap₂ (λ x y. take x run ++ (frun ++ drop y run)) at until ∙ ap₂ (λ x y. take (begin_of ls i) x ++ (y ++ drop (begin_of ls j) x)) h.whole f.whole
        ∙ ap₂ (λ x y. x ++ (concat fs ++ y)) (take-begin_of ls i) (drop-begin_of ls j)
        ∙ sym (concat-append (take i ls) (fs ++ drop j ls) ∙ ap (λ z. concat (take i ls) ++ z) (concat-append fs (drop j ls)))

    spliced_size : length run' ≡ from + added + length (concat (drop j ls))
    spliced_size =
        let whole : length run' ≡ length (concat (take i ls) ++ (concat fs ++ concat (drop j ls))) = ap length (spliced_run ∙ concat-append (take i ls) (fs ++ drop j ls) ∙ ap (λ z. concat (take i ls) ++ z) (concat-append fs (drop j ls))) in
        omega (arith, whole, length-append (concat (take i ls)) (concat fs ++ concat (drop j ls)), length-append (concat fs) (concat (drop j ls)), ap length f.whole, at, size)

    pub added_fits : length run' < 2 ^ 64 → from + added < 2 ^ 64
    added_fits fits = omega (arith, spliced_size, fits)

    pub fresh_fits : length run' < 2 ^ 64 → All (λ x. from + x < 2 ^ 64) fends
    fresh_fits fits = subst (λ (z : List ℕ). All (λ x. from + x < 2 ^ 64) z) (sym f.placed) (λ k d lt. omega (arith, (ends_from-within 0 fs k d lt).1, spliced_size, fits, ap length f.whole, size))

    pub behind_fits : length run' < 2 ^ 64 → All (λ x. (to ≤ x) × (x - to + (from + added) < 2 ^ 64)) (drop j ends)
    behind_fits fits =
        subst (λ (z : List ℕ). All (λ x. (to ≤ x) × (x - to + (from + added) < 2 ^ 64)) z) (sym (ap (drop j) h.placed ∙ drop-ends_from 0 j ls))
        (λ k d lt. let w = ends_from-within (0 + begin_of ls j) (drop j ls) k d lt in (omega (arith, w.0, until), omega (arith, w.1, until, spliced_size, fits)))

    pub holds_splice : (ends' : List ℕ) → ends' ≡ take i ends ++ (map (λ x. from + x) fends ++ map (λ x. x - to + (from + added)) (drop j ends)) → LaidOut run' ends' (splice ls i j fs)
    holds_splice ends' d = record {
      whole = spliced_run;
      placed =
          d ∙ ap₂ (λ x y. x ++ y) front (ap₂ (λ x y. x ++ y) middle behind)
          ∙ sym (ends_from-append 0 (take i ls) (fs ++ drop j ls) ∙ ap (λ z. ends_from 0 (take i ls) ++ z) (ends_from-append (0 + begin_of ls i) fs (drop j ls)));
    }
      where
        front : take i ends ≡ ends_from 0 (take i ls)
        front = ap (take i) h.placed ∙ take-ends_from 0 i ls

        middle : map (λ x. from + x) fends ≡ ends_from (0 + begin_of ls i) fs
        middle = ap (map (λ x. from + x)) f.placed ∙ ends_from-add from 0 (0 + begin_of ls i) fs (omega (arith, at))

        behind : map (λ x. x - to + (from + added)) (drop j ends) ≡ ends_from (0 + begin_of ls i + length (concat fs)) (drop j ls)
        behind =
            ap (map (λ x. x - to + (from + added))) (ap (drop j) h.placed ∙ drop-ends_from 0 j ls)
            ∙ ends_from-move to (from + added) (0 + begin_of ls j) (0 + begin_of ls i + length (concat fs)) (drop j ls) (omega (arith, until)) (omega (arith, until, at, size, ap length f.whole))
